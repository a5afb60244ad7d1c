use Rattle.std.proofs.Common.{◌≤◌, length, arith}
use Rattle.aes.proofs.Loops.{inverts}
use Rattle.aes.proofs.schedule.invert.Goals as goal

pub returns : goal.returns
returns c =
    let over : length c.loop-k.k-items ≤ c.loop-k.k-index = omega arith in
    inverts c.args.keys.now c.reverse.new.self c.loop-k.k-items c.loop-k.k-index c.reverse.ensures.after over c.loop-k.invariant
