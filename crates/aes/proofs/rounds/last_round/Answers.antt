use Rattle.std.proofs.Common.{map, sym, ap, ◌∙◌}
use Rattle.aes.specs.Aes.{State, add}
use Rattle.aes.specs.Words.{state}
use Rattle.aes.proofs.OnWords.{turned_state}
use Rattle.aes.proofs.rounds.last_round.Goals as goal

pub returns : goal.returns
returns g c =
    let d = g.D.Direction in
    c.bitxor.ensures
    ∙ ap (λ (s : State). add s (state c.args.key))
    (turned_state (map d.sub) d.order _ _ _ _
    c.turned-from_1.ensures c.turned-from_2.ensures c.turned-from_3.ensures
    c.shifted.ensures c.shifted-2.ensures c.shifted-3.ensures c.shifted-4.ensures
    c.sub_column.ensures c.sub_column-2.ensures c.sub_column-3.ensures c.sub_column-4.ensures
    ∙ sym (g.met.D.Direction.shifts c.args.x))
