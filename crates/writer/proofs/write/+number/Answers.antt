use Rattle.std.proofs.Common.{arith}
use Rattle.std.proofs.lemmas.Fmt.{decimal_nonempty}
use Rattle.writer.proofs.Writing.{length_decimal_step, written_digit, written_last}
use Rattle.writer.proofs.write.+number.Goals as goal

pub bounds-out-at : goal.bounds-out-at
bounds-out-at t c = omega (arith, decimal_nonempty c.args.n (omega arith))

pub returns-then-n-lt10 : goal.returns-then-n-lt10
returns-then-n-lt10 t c = written_digit c.args.out.now c.args.at c.args.n c.if-n-lt10.true (omega (arith, decimal_nonempty c.args.n (omega arith)))

pub number-last-requires : goal.number-last-requires
number-last-requires t c = (omega arith, omega (arith, length_decimal_step c.args.n c.if-n-lt10.false (omega arith)))

pub bounds-out-last : goal.bounds-out-last
bounds-out-last t c = omega (arith, length_decimal_step c.args.n c.if-n-lt10.false (omega arith))

pub overflow_add-result-2 : goal.overflow_add-result-2
overflow_add-result-2 t c = omega (arith, length_decimal_step c.args.n c.if-n-lt10.false (omega arith))

pub returns : goal.returns
returns t c = written_last c.args.out.now c.number-last.new.out c.args.at c.args.n c.number-last.result c.if-n-lt10.false (omega arith) c.requires (omega arith) c.number-last.ensures
