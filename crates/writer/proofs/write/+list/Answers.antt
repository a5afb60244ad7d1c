use Rattle.std.proofs.Common.{arith, length-set, ltb-false, ltb-true}
use Rattle.std.proofs.lemmas.List.{length-take, length-drop}
use Rattle.writer.proofs.Writing.{written_none, written_rest, listed_none, listed_one, length_listed_first}
use Rattle.writer.proofs.write.+list.Goals as goal

pub number-requires : goal.number-requires
number-requires t c = rw (listed_one c.args.ns.now (omega (arith, ltb-true, ltb-false))) at c.requires

pub number-end-requires : goal.number-end-requires
number-end-requires t c = omega (arith, length_listed_first c.args.ns.now (omega (arith, ltb-false)))

pub bounds-out-end : goal.bounds-out-end
bounds-out-end t c = omega (arith, length_listed_first c.args.ns.now (omega (arith, ltb-false)))

pub overflow_add-end : goal.overflow_add-end
overflow_add-end t c = omega (arith, length_listed_first c.args.ns.now (omega (arith, ltb-false)))

pub list-requires : goal.list-requires
list-requires t c = (
  simp (length-take, length-drop) (omega (arith, ltb-false)),
  simp length-set (omega (arith, length_listed_first c.args.ns.now (omega (arith, ltb-false)))),
)

pub returns-in-empty : goal.returns-in-empty
returns-in-empty t c = rw (listed_none c.args.ns.now (omega (arith, ltb-true))) (written_none c.args.out.now c.args.at)

pub returns-in-len1 : goal.returns-in-len1
returns-in-len1 t c = rw (listed_one c.args.ns.now (omega (arith, ltb-true, ltb-false))) c.number.ensures

pub returns-in-len1-up : goal.returns-in-len1-up
returns-in-len1-up t c =
    written_rest c.args.out.now c.number-end.new.out c.list.new.out c.args.ns.now c.args.at c.number-end.result c.list.result
    (omega (arith, ltb-false)) c.requires (omega arith) c.number-end.ensures c.list.ensures
