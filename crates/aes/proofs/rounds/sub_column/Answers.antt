use Rattle.std.proofs.Common.{◌≡◌, [], ◌∷◌, length, map, ap, ◌∙◌, arith}
use Rattle.block.proofs.Sixteen.{spread-all}
use Rattle.aes.proofs.OnWords.{word_bytes}
use Rattle.aes.proofs.rounds.sub_column.Goals as goal

pub returns : goal.returns
returns g c =
    let n : length c.args.column ≡ 4 = omega arith in
    word_bytes c.from_be_bytes.result _ _ _ _ c.sub_byte.type_inv c.sub_byte-2.type_inv c.sub_byte-3.type_inv c.sub_byte-4.type_inv c.from_be_bytes.ensures
    ∙ (λ t. c.sub_byte.ensures t ∷ c.sub_byte-2.ensures t ∷ c.sub_byte-3.ensures t ∷ c.sub_byte-4.ensures t ∷ [])
    ∙ ap (map g.D.Direction.sub) (spread-all 4 c.args.column n)
