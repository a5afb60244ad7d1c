use Rattle.std.proofs.Common.{◌≡◌, length, ap, ◌∙◌, arith}
use Rattle.calls.proofs.Placing.{row_le, page_long}
use Rattle.line.proofs.serve.show.Goals as goal

pub hexadecimal-requires : goal.hexadecimal-requires
hexadecimal-requires c =
    let g = c.args.store.now.geometry in
    let h = c.in-Ok.ensures in
    let fits = row_le c.args.slot g.slots g.page h.1 in
    let long : length c.in-Ok.bytes.now ≡ g.page = ap length h.2 ∙ page_long g.page c.args.slot c.args.memory.now (omega (arith, h.0)) in
    omega (arith, g.ok.3, ap length c.clear.ensures)
