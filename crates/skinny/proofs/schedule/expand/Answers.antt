use Rattle.std.proofs.Common.{◌<◌, ◌≤◌, length, arith, length-set}
use Rattle.skinny.proofs.Loops.{key_part_more, key_part_none, stored_all}
use Rattle.skinny.proofs.schedule.expand.Goals as goal

pub loop-i-preserved : goal.loop-i-preserved
loop-i-preserved c =
    let at = c.loop-i in
    let l : c.loop-i.i < 28 = omega arith in (
      simp length-set at.invariant.0,
      simp (c.shift_key-t-in-loop-i.ensures, c.permute-in-loop-i.ensures, c.shift_key-t.ensures, c.permute.ensures)
          (key_part_more at.t at.place-items _ at.i _ l at.invariant.0
          (simp (c.with_constant-even.ensures, c.constant.ensures))
          (simp (c.with_constant-odd.ensures, c.constant-in-loop-i.ensures, c.shift_key-t.ensures, c.permute.ensures))
          at.invariant.1),
    )

pub returns : goal.returns
returns c =
    let at = c.loop-i in
    let l : length c.loop-i.place-items ≤ c.loop-i.i = omega arith in
    let over : 28 ≤ c.loop-i.i = omega arith in
    stored_all at.place-items at.i _ _ l (key_part_none at.i at.t over) at.invariant.1
