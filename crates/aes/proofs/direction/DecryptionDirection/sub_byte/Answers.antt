use Rattle.std.proofs.Common.{arith}
use Rattle.aes.specs.Field.{double, times_bits, times, squares, inverse, inv_affine, inv_sbox}
use Rattle.aes.proofs.OnWords.{entry}
use Rattle.aes.proofs.direction.DecryptionDirection.sub_byte.Goals as goal

pub returns : goal.returns
unfolding double times_bits times squares inverse inv_affine inv_sbox
returns c = entry inv_sbox c.args.x (omega arith)
