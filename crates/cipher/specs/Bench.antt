-- The bench cipher: encrypting and decrypting both add the body to the block.
use Rattle.std.specs.Prelude.{ℕ, bit_xor}

abbrev pub bench_sum : ℕ → ℕ → ℕ → ℕ
bench_sum head body x = bit_xor body x
