use Rattle.std.proofs.Common.{ℕ, List, map, sym, ap, ◌∙◌}
use Rattle.aes.specs.Aes.{State, add, on_column, on_columns}
use Rattle.aes.specs.Words.{state}
use Rattle.aes.proofs.OnWords.{turned_state}
use Rattle.aes.proofs.rounds.round.Goals as goal

pub returns : goal.returns
unfolding on_columns
returns g c =
    let d = g.D.Direction in
    c.bitxor.ensures
    ∙ ap (λ (s : State). add s (state c.args.key))
    (turned_state (λ (w : List ℕ). on_column d.i d.j d.k d.l (map d.sub w)) d.order _ _ _ _
    c.turned-from_1.ensures c.turned-from_2.ensures c.turned-from_3.ensures
    c.shifted.ensures c.shifted-2.ensures c.shifted-3.ensures c.shifted-4.ensures
    c.mixed_column.ensures c.mixed_column-2.ensures c.mixed_column-3.ensures c.mixed_column-4.ensures
    ∙ ap (on_columns d.i d.j d.k d.l) (sym (g.met.D.Direction.shifts c.args.x)))
