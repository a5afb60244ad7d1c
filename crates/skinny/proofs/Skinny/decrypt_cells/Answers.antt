use Rattle.std.proofs.Common.{◌≡◌, ◌≤◌, List, length, sym, ap, ◌∙◌, arith}
use Rattle.std.proofs.lemmas.List.{drop_all}
use Rattle.std.specs.Iterator.Adapters.{rev_source}
use Rattle.std.specs.Slice.Iter.{iter_rest}
use Rattle.skinny.specs.Skinny.{Cells, decrypted_cells, unrounds}
use Rattle.skinny.specs.Pairs.{in_turn}
use Rattle.skinny.specs.declared.schedule.RoundKeys.{RoundKeys}
use Rattle.skinny.proofs.Loops.{unrounds_two}
use Rattle.skinny.proofs.Skinny.decrypt_cells.Goals as goal

pub loop-sums-preserved : goal.loop-sums-preserved
loop-sums-preserved c =
    simp (c.unround-state.ensures, c.unround.ensures)
    (unrounds_two (iter_rest (rev_source c.next.new.self)) c.in-Some.sums.now c.loop-sums.state
    ∙ ap (λ (ks : List RoundKeys). unrounds (in_turn ks) c.loop-sums.state) (sym c.in-Some.ensures.steps)
    ∙ c.loop-sums.invariant)

pub returns : goal.returns
unfolding unrounds decrypted_cells
returns c =
    let left = iter_rest (rev_source c.loop-sums.sums-iterator) in
    let none : length (iter_rest (rev_source c.loop-sums.sums-iterator)) ≤ 0 = omega (arith, c.in-None.ensures.steps.0) in
    let from : iter_rest (rev_source c.into_iter-sums-iterator.result) ≡ c.round_keys-all.result = cc in
    ap (λ (ks : List RoundKeys). unrounds (in_turn ks) c.loop-sums.state) (sym (drop_all 0 left none))
    ∙ c.loop-sums.invariant
    ∙ ap (λ (ks : List Cells). unrounds ks c.args.block) (ap in_turn from ∙ c.round_keys-all.ensures)
