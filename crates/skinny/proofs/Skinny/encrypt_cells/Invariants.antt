use Rattle.std.proofs.Common.{◌≡◌, drop}
use Rattle.skinny.specs.Skinny.{rounds}
use Rattle.skinny.specs.Pairs.{in_turn}
use Rattle.skinny.proofs.TwoRounds.{tweaked_keys}
use Rattle.skinny.proofs.Skinny.encrypt_cells.Given as goal

abbrev pub invariant-loop-keys : goal.invariant-loop-keys
invariant-loop-keys l =
    rounds (tweaked_keys (in_turn (drop l.keys-index l.self.keys)) l.later.head l.later.body) l.state
    ≡ rounds (tweaked_keys (in_turn l.self.keys) l.initial.later.head l.initial.later.body) l.initial.state
