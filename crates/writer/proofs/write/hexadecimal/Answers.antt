use Rattle.std.proofs.Common.{◌≡◌, ◌+◌, ◌*◌, length, arith}
use Rattle.std.proofs.lemmas.List.{take_all}
use Rattle.writer.proofs.Writing.{written_hex_none, written_hex_more}
use Rattle.writer.proofs.write.hexadecimal.Goals as goal

pub loop-i-init : goal.loop-i-init
loop-i-init c = written_hex_none c.args.out.now c.args.at

pub loop-i-preserved : goal.loop-i-preserved
loop-i-preserved c =
    written_hex_more c.args.out.now c.loop-i.out c.args.bytes.now c.args.at c.loop-i.i c.digit.result c.digit-in-loop-i.result
    c.loop-i-test.true c.requires (omega arith) c.digit.ensures c.digit-in-loop-i.ensures c.loop-i.invariant

pub returns : goal.returns
returns c =
    let n : c.args.at + 2 * length c.args.bytes.now ≡ c.args.at + 2 * c.loop-i.i = omega arith in
    rw n (rw (take_all c.loop-i.i c.args.bytes.now c.loop-i-test.false) at c.loop-i.invariant)
