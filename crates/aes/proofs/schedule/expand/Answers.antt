use Rattle.std.proofs.Common.{◌≡◌, ℕ, suc, ◌+◌, ◌<◌, ◌≤◌, map, length, sym, refl, ap, ◌∙◌, ap₂, arith, length-set}
use Rattle.std.specs.List.{range_with_len}
use Rattle.std.proofs.lemmas.List.{take_all}
use Rattle.aes.specs.Field.{double}
use Rattle.aes.specs.Aes.{State, key_after, round_constant, round_key}
use Rattle.aes.specs.Words.{state, keys_of_rounds}
use Rattle.aes.proofs.Loops.{stored_more}
use Rattle.aes.proofs.schedule.expand.Goals as goal

pub loop-place-init : goal.loop-place-init
unfolding round_constant round_key
loop-place-init c = (refl, refl, refl, refl)

pub loop-place-preserved : goal.loop-place-preserved
unfolding round_constant round_key
loop-place-preserved c =
    let keyed = round_key (state c.from-k.result) in
    let inv = c.loop-place.invariant in
    let lt : c.loop-place.place-index < length c.loop-place.place-items = omega (arith, c.loop-place.invariant.0) in
    let next : suc c.loop-place.place-index ≡ c.loop-place.place-index + 1 = omega arith in (
      simp length-set inv.0,
      c.double-constant.ensures ∙ ap double inv.1 ∙ ap round_constant next,
      c.next_key-k.ensures ∙ ap₂ key_after inv.1 inv.2 ∙ ap keyed next,
      stored_more state keyed c.loop-place.place-items c.loop-place.place-index c.loop-place.k lt inv.2 inv.3,
    )

pub returns : goal.returns
unfolding keys_of_rounds
returns c =
    let over : length c.loop-place.place-items ≤ c.loop-place.place-index = omega arith in
    let end : c.loop-place.place-index ≡ 11 = omega arith in
    ap (map state) (sym (take_all c.loop-place.place-index c.loop-place.place-items over))
    ∙ c.loop-place.invariant.3
    ∙ ap₂ (λ (s : State) (n : ℕ). map (round_key s) (range_with_len 0 n)) c.from-k.ensures end
