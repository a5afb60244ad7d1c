use Rattle.std.proofs.Common.{arith}
use Rattle.aes.specs.Field.{double, times_bits, times, squares, inverse, affine, sbox}
use Rattle.aes.proofs.OnField.{sbox_byte}
use Rattle.aes.proofs.OnWords.{part_entry}
use Rattle.aes.proofs.direction.EncryptionDirection.mixed_byte.Goals as goal

pub returns : goal.returns
unfolding double times_bits times squares inverse affine sbox
returns c = part_entry 2 3 1 1 sbox sbox_byte c.args.x (omega arith)
