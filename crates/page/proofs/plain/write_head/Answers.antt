use Rattle.std.proofs.Common.{◌≡◌, ◌++◌, set, replicate, ap, ◌∙◌, ap₂}
use borrow.Rule.Slice.PartMut.{post_of}
use Rattle.page.proofs.Laying.{head_is}
use Rattle.page.proofs.plain.write_head.Goals as goal

pub returns : goal.returns
returns g c =
    let label = g.R.Record.LABEL in
    let copied = c.copy_from_slice.ensures.after ∙ c.LABEL.ensures in
    let filled : c.fill.new.self ≡ replicate 16 0 = c.fill.ensures.after (λ y e. e) ∙ ap (λ n. replicate n 0) c.requires in
    ap₂ (λ l z. set (set (l ++ post_of 0 4 z) 4 c.args.mark) 5 c.args.slot) copied filled
    ∙ head_is label c.args.mark c.args.slot g.met.R.Record.four.0
