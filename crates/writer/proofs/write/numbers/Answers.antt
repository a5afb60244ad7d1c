use Rattle.std.proofs.Common.{◌^◌, ◌<◌, arith}
use Rattle.std.proofs.ByRecursion.{All-from_get_or}
use Rattle.writer.proofs.Writing.{length-listed}
use Rattle.writer.proofs.write.numbers.Goals as goal

pub list-requires : goal.list-requires
list-requires c =
    let ns = c.args.ns.now in
    omega (arith, length-listed ns (All-from_get_or (λ n. n < 2 ^ 32) ns 0 (λ i h. omega (arith, c.type_inv.ns i))))
