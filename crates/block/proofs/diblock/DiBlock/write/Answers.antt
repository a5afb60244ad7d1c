use Rattle.std.proofs.Common.{◌+◌, ◌*◌, ◌++◌, length, take, drop, ap, ◌∙◌, ap₂}
use Rattle.block.proofs.Writes.{put_two}
use Rattle.block.proofs.diblock.DiBlock.write.Goals as goal

pub returns : goal.returns
returns c =
    let m = c.args.m.now in
    let a = 32 * c.args.i in
    put_two a m _ _ (ap length c.write_block.ensures) c.requires
    ∙ ap₂ (λ v w. take a m ++ ((v ++ w) ++ drop (a + 32) m)) c.write_block.ensures c.write_block-2.ensures
