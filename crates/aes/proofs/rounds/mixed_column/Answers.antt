use Rattle.std.proofs.Common.{◌≡◌, ℕ, List, length, map, get_or, ap, ◌∙◌, arith}
use lib.Bits.{xor_lt}
use Rattle.block.proofs.Sixteen.{spread-all}
use Rattle.aes.specs.Aes.{on_column}
use Rattle.aes.proofs.OnWords.{column_code}
use Rattle.aes.proofs.rounds.mixed_column.Goals as goal

pub returns : goal.returns
returns g c =
    let d = g.D.Direction in
    let column = c.args.column in
    let at : ℕ → ℕ = λ k. d.sub (get_or column k 0) in
    let n : length c.args.column ≡ 4 = omega arith in
    column_code d.i d.j d.k d.l _ _ _ _ _ _ _ (at 0) (at 1) (at 2) (at 3) c.mixed_byte-4.ensures c.mixed_byte-3.ensures c.mixed_byte-2.ensures c.mixed_byte.ensures c.mixed_byte.type_inv
    (xor_lt 32 _ _ c.mixed_byte-2.type_inv c.rotate_right-three.type_inv) (xor_lt 32 _ _ c.mixed_byte-3.type_inv c.rotate_right-two.type_inv) c.rotate_right-three.ensures
    c.rotate_right-two.ensures c.rotate_right-one.ensures
    ∙ ap (λ (w : List ℕ). on_column d.i d.j d.k d.l (map d.sub w)) (spread-all 4 column n)
