use Rattle.std.proofs.Common.{◌≡◌, ◌<◌, ◌≤◌, length, ◌∙◌, arith, length-set}
use Rattle.skinny.specs.Skinny.{cells_of}
use Rattle.skinny.specs.Inverse.{cells_are}
use Rattle.skinny.proofs.Loops.{tweaked_stored, tweaked_none, stored_all}
use Rattle.skinny.proofs.TwoRounds.{tweaked_is}
use Rattle.skinny.proofs.Skinny.round_keys.Goals as goal

pub loop-keys-preserved : goal.loop-keys-preserved
loop-keys-preserved c =
    let at = c.loop-keys in
    let l : c.loop-keys.keys-index < length c.loop-keys.keys-items = omega arith in (
      simp length-set at.invariant.0,
      simp (c.under.ensures.head, c.under.ensures.body)
          (tweaked_stored at.keys-items _ c.under.result at.later.head at.later.body at.keys-index _ l c.under.ensures.even (c.under.ensures.odd ∙ simp (c.under.ensures.head, c.under.ensures.body)) at.invariant.1),
    )

pub returns : goal.returns
returns c =
    let at = c.loop-keys in
    let hp : length c.args.tweak.head ≡ 16 = omega arith in
    let hq : length c.args.tweak.body ≡ 16 = omega arith in
    let l : length c.loop-keys.keys-items ≤ c.loop-keys.keys-index = omega arith in
    stored_all at.keys-items at.keys-index _ _ l (tweaked_none at.keys-items at.later.head at.later.body at.keys-index l) at.invariant.1
    ∙ tweaked_is _ c.args.tweak.head c.args.tweak.body (cells_of c.args.self.now.key) c.args.self.now.ok hp hq (cells_are c.args.self.now.key).0
