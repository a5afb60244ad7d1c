use Rattle.std.proofs.Common.{get_or, take, drop, ap, ◌∙◌}
use Rattle.std.specs.Int.Digits.{number_from_digits}
use Rattle.block.specs.Blocks.{bytes}
use Rattle.aes.specs.Aes.{State, add, on_columns}
use Rattle.aes.specs.Words.{state}
use Rattle.aes.proofs.OnWords.{columns}
use Rattle.aes.proofs.Loops.{walk_turns, walk_ends}
use Rattle.aes.proofs.rounds.walk.Goals as goal

pub loop-key-preserved : goal.loop-key-preserved
loop-key-preserved g c =
    let d = g.D.Direction in
    walk_turns d.sub_shift (on_columns d.i d.j d.k d.l) (take 9 (drop 1 c.args.keys.now)) (state c.bitxor-x.result) (state c.loop-key.x) (state c.round-x.result) c.loop-key.key-index
    (columns 0 0 0 0) c.loop-key-test.true c.round-x.ensures c.loop-key.invariant

pub returns : goal.returns
returns g c =
    let d = g.D.Direction in
    let none = columns 0 0 0 0 in
    let first = c.bitxor-x in
    c.into.ensures
    ∙ ap (number_from_digits 256)
    (c.last_round.ensures
    ∙ walk_ends d.sub_shift (on_columns d.i d.j d.k d.l) c.args.keys.now (bytes 16 c.args.block) (state first.result) (state c.loop-key.x) c.loop-key.key-index none none
    c.told-keys c.loop-key-test.false (first.ensures ∙ ap (λ (s : State). add s (state (get_or c.args.keys.now 0 none))) c.from.ensures) c.loop-key.invariant)
