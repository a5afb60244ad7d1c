use Rattle.std.proofs.Common.{◌≡◌, map, take, drop, fold}
use Rattle.aes.specs.Aes.{add, on_columns}
use Rattle.aes.specs.Words.{state}
use Rattle.aes.proofs.rounds.walk.Given as goal

abbrev pub invariant-loop-key : goal.invariant-loop-key
invariant-loop-key g l =
    let d = g.D.Direction in
    state l.x ≡ fold (λ x k. add (on_columns d.i d.j d.k d.l (d.sub_shift x)) k) (state l.initial.x) (take l.key-index (map state (take 9 (drop 1 l.keys))))
