-- How the code holds what the rounds add: two rounds a pair.
use Rattle.std.specs.Prelude.{List, [], ◌∷◌}
use Rattle.skinny.specs.Skinny.{Cells}
use Rattle.skinny.specs.declared.schedule.RoundKeys.{RoundKeys}

-- round by round
abbrev pub in_turn : List RoundKeys → List Cells
in_turn [] = []
in_turn (k ∷ ks) = k.even ∷ k.odd ∷ in_turn ks
