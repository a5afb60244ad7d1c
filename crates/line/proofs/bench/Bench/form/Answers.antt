use Rattle.std.proofs.Common.{◌≡◌, ◌*◌, length, min, Ok, Err, refl, rules}
use Rattle.std.proofs.lemmas.Result.{err_from_is_err_and}
use Rattle.line.proofs.Parts.{formed}
use Rattle.line.proofs.bench.Bench.form.Goals as goal

pub returns-in_err-geometry : goal.returns-in_err-geometry
returns-in_err-geometry c =
    let p = err_from_is_err_and c.from_residual.result c.from_residual.ensures.1 in
    (Err c.in_err-geometry.field-0.0, c.in_err-geometry.ensures, (refl, rw (p.1, p.2) refl))

pub returns-in_err-form : goal.returns-in_err-form
returns-in_err-form c =
    let p = err_from_is_err_and c.from_residual-in_err-form.result c.from_residual-in_err-form.ensures.1 in
    let b = c.self.inside in
    let s = c.new-store.result in
    let long : length b.memory ≡ 32768 = search rules in
    let end : c.min-end.result ≡ min (s.geometry.slots * s.geometry.page) (length b.memory) = cc in
    rw (p.1, p.2, ← c.self.view_is)
    (formed b.memory c.form.new.memory b.working c.min-end.result s end c.form.auto.memory b.store c.in_ok-geometry.geometry c.new-2.result c.args.name c.args.slots c.args.page (Err c.in_err-form.field-0.0)
    c.new-store.ensures.geometry c.new-store.ensures.cipher c.new-2.ensures c.in_ok-geometry.ensures c.in_err-form.ensures.does)

pub returns : goal.returns
returns c =
    let b = c.self.inside in
    let s = c.new-store.result in
    let long : length b.memory ≡ 32768 = search rules in
    let end : c.min-end.result ≡ min (s.geometry.slots * s.geometry.page) (length b.memory) = cc in
    rw (← c.self.view_is)
    (formed b.memory c.form.new.memory b.working c.min-end.result s end c.form.auto.memory b.store c.in_ok-geometry.geometry c.new-2.result c.args.name c.args.slots c.args.page (Ok tt)
    c.new-store.ensures.geometry c.new-store.ensures.cipher c.new-2.ensures c.in_ok-geometry.ensures c.in_ok-form.ensures.does)
