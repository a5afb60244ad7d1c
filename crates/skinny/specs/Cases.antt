-- Worked cases of the definitions; the last is the vector that the design paper publishes.
use Rattle.std.specs.Prelude.{◌≡◌}
use Rattle.skinny.specs.Sbox.{sub}
use Rattle.skinny.specs.Skinny.{constant_at, encrypt_block}

pub record Cases : Type 0 where
  pub sbox : sub 0x00 ≡ 0x65
  pub first : constant_at 0 ≡ 0x01
  pub second : constant_at 1 ≡ 0x03
  pub third : constant_at 2 ≡ 0x07
  pub published :
      encrypt_block 0xab1afac2611012cd8cef952618c3ebe8 0xdf889548cfc7ea52d296339301797449 0xab588a34a47f1ab2dfe9c8293fbea9a5 0xa3994b66ad85a3459f44e92b08f550cb
      ≡ 0x94ecf589e2017c601b38c6346a10dcfa
