use Rattle.std.proofs.Common.{◌≡◌, ◌++◌, length, take, drop}
use Rattle.skinny.specs.Pairs.{in_turn}
use Rattle.skinny.proofs.TwoRounds.{tweaked_keys}
use Rattle.skinny.proofs.Skinny.round_keys.Given as goal

abbrev pub invariant-loop-keys : goal.invariant-loop-keys
invariant-loop-keys l =
    (length l.keys-items ≡ 28)
    × (in_turn (take l.keys-index l.keys-items) ++ tweaked_keys (in_turn (drop l.keys-index l.keys-items)) l.later.head l.later.body
    ≡ tweaked_keys (in_turn l.self.keys) l.initial.later.head l.initial.later.body)
