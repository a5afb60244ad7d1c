use Rattle.std.proofs.Common.{◌≡◌, ◌<◌, ◌≤◌, length, sym, ap, ◌∙◌, arith}
use Rattle.skinny.specs.Skinny.{cells_of, encrypted_cells, rounds}
use Rattle.skinny.specs.Inverse.{cells_are}
use Rattle.skinny.proofs.Loops.{rounds_two, rounds_none}
use Rattle.skinny.proofs.TwoRounds.{tweaked_is}
use Rattle.skinny.proofs.Skinny.encrypt_cells.Goals as goal

pub loop-keys-preserved : goal.loop-keys-preserved
loop-keys-preserved c =
    let keys = c.args.self.now.keys in
    let l : c.loop-keys.keys-index < length c.args.self.now.keys = omega arith in
    simp (c.round-state.ensures, c.round.ensures, c.under-sums.ensures.even, c.under-sums.ensures.odd, c.under-sums.ensures.head, c.under-sums.ensures.body)
    (sym (rounds_two keys _ c.loop-keys.later.head c.loop-keys.later.body c.loop-keys.state c.loop-keys.keys-index l) ∙ c.loop-keys.invariant)

pub returns : goal.returns
unfolding encrypted_cells
returns c =
    let hp : length c.args.tweak.head ≡ 16 = omega arith in
    let hq : length c.args.tweak.body ≡ 16 = omega arith in
    let l : length c.args.self.now.keys ≤ c.loop-keys.keys-index = omega arith in
    sym (rounds_none c.args.self.now.keys c.loop-keys.later.head c.loop-keys.later.body c.loop-keys.state c.loop-keys.keys-index l)
    ∙ c.loop-keys.invariant
    ∙ ap (λ ks. rounds ks c.args.block) (tweaked_is _ c.args.tweak.head c.args.tweak.body (cells_of c.args.self.now.key) c.args.self.now.ok hp hq (cells_are c.args.self.now.key).0)
