use Rattle.std.proofs.Common.{◌*◌, sym, ap, ◌∙◌, ap₂}
use Rattle.std.proofs.lemmas.List.{drop-drop}
use Rattle.block.specs.Blocks.{di, block}
use Rattle.block.proofs.diblock.DiBlock.read.Goals as goal

pub returns : goal.returns
returns c =
    let m = c.args.m.now in
    ap₂ di c.read_block.ensures (c.read_block-2.ensures ∙ ap block (sym (drop-drop 16 (32 * c.args.i) m)))
