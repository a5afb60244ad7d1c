-- The published examples, by computing the definition.
use Rattle.std.proofs.Common.{refl}
use Rattle.aes.specs.Field.{double, times_bits, times, squares, inverse, affine, sbox}
use Rattle.aes.specs.Aes.{shifted_rows, on_columns, key_after, round_constant, round_key, round, rounds, cipher, aes_encrypted, Examples}

pub examples : Examples
unfolding double times_bits times squares inverse affine sbox shifted_rows on_columns key_after round_constant round_key round rounds cipher aes_encrypted
examples = record { first = refl; second = refl }
