use Rattle.record.specs.Numbers.{sixteens_more}
use Rattle.record.proofs.sixteen.write_sixteens.Goals as goal

pub loop-k-preserved : goal.loop-k-preserved
loop-k-preserved c =
    sixteens_more c.args.numbers.now c.args.out.now c.loop-k.k c.loop-k.out c.write_sixteen.new.out
    c.loop-k-test.true c.loop-k.invariant c.write_sixteen.ensures
