use Rattle.std.proofs.Common.{◌≡◌, ◌+◌, ◌-◌, ◌++◌, length, replicate, ap, ◌∙◌, ap₂, arith}
use borrow.Rule.Slice.PartMut.{put_mid, post_of}
use Rattle.page.specs.Pages.{head}
use Rattle.page.proofs.Laying.{body_is, head_long}
use Rattle.page.proofs.plain.lay_record.Goals as goal

pub returns : goal.returns
returns g c =
    let n = length c.args.page.now in
    let w = g.R.Record.WIDTH in
    let k = 16 + c.WIDTH-end.result - 16 in
    let h = head g.R.Record 1 c.args.slot in
    let filled : c.fill.new.self ≡ replicate n 0 = c.fill.ensures.after (λ y e. e) in
    let long : length h ≡ 16 = head_long g.R.Record.LABEL 1 c.args.slot g.met.R.Record.four.0 in
    let wide : k ≡ w = omega (arith, c.WIDTH-end.ensures) in
    ap₂ (λ x z. put_mid 16 k (x ++ post_of 0 16 z) c.write.new.out) c.write_head.ensures filled
    ∙ body_is n w k h c.write.new.out long wide
    ∙ ap (λ b. h ++ (b ++ replicate (n - (16 + w)) 0)) c.write.ensures
