use Rattle.std.proofs.Common.{refl}
use Rattle.skinny.specs.Sbox.{sub}
use Rattle.skinny.specs.Skinny.{next, constant_at, lfsr2, lfsr3, round_of, keys_of_rounds, rounds, encrypted_cells, cells_of, block_of}
use Rattle.skinny.proofs.Skinny.new.Goals as goal

pub returns-clause-cases : goal.returns-clause-cases
unfolding sub next constant_at lfsr2 lfsr3 round_of keys_of_rounds rounds encrypted_cells cells_of block_of
returns-clause-cases c = record { sbox = refl; first = refl; second = refl; third = refl; published = refl }
