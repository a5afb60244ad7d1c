use Rattle.std.proofs.Common.{refl}
use Rattle.skinny.specs.Sbox.{sub}
use Rattle.skinny.specs.Skinny.{next, constant_at}
use Rattle.mode.specs.Permutes.{enciphered}
use Rattle.cases.proofs.table.cases_stand.Goals as goal

pub returns : goal.returns
unfolding enciphered sub next constant_at
returns c =
    record {
      alpha_carries = refl;
      alpha_shifts = refl;
      sbox_00 = refl;
      constants = refl;
      zeros_32 = refl;
      one_di_block = refl;
      zeros_33 = refl;
      zeros_64 = refl;
      bytes_31 = refl;
      reading_1000 = refl;
      reading_1001 = refl;
    }
