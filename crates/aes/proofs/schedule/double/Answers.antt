use Rattle.std.proofs.Common.{◌*◌, ◌/◌, ◌%◌, refl, arith}
use lib.Bits.{bit_xor}
use Rattle.aes.specs.Field.{double}
use Rattle.block.proofs.Below.{same_below}
use Rattle.aes.proofs.schedule.double.Goals as goal

pub returns : goal.returns
unfolding double
returns c = same_below (λ x. bit_xor (x * 2 % 256) (27 * (x / 128))) double 256 refl c.args.x (omega arith)
