use Rattle.std.proofs.Common.{arith}
use Rattle.aes.specs.Field.{double, times_bits, times, squares, inverse, inv_affine, inv_sbox}
use Rattle.aes.proofs.OnField.{inv_sbox_byte}
use Rattle.aes.proofs.OnWords.{part_entry}
use Rattle.aes.proofs.direction.DecryptionDirection.mixed_byte.Goals as goal

pub returns : goal.returns
unfolding double times_bits times squares inverse inv_affine inv_sbox
returns c = part_entry 14 11 13 9 inv_sbox inv_sbox_byte c.args.x (omega arith)
