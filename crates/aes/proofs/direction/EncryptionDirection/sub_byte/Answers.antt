use Rattle.std.proofs.Common.{arith}
use Rattle.aes.specs.Field.{double, times_bits, times, squares, inverse, affine, sbox}
use Rattle.aes.proofs.OnWords.{entry}
use Rattle.aes.proofs.direction.EncryptionDirection.sub_byte.Goals as goal

pub returns : goal.returns
unfolding double times_bits times squares inverse affine sbox
returns c = entry sbox c.args.x (omega arith)
