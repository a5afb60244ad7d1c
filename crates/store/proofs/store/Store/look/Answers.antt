use Rattle.std.proofs.Common.{sym, ◌∙◌, arith}
use Rattle.std.proofs.lemmas.Result.{err_from_is_err_and}
use Rattle.store.proofs.Passes.{says_more, lowest}
use Rattle.store.proofs.store.Store.look.Goals as goal

pub returns-in_err-read_page : goal.returns-in_err-read_page
returns-in_err-read_page g c =
    let p = err_from_is_err_and c.from_residual.result c.from_residual.ensures.1 in
    rw (p.1, p.2)
    (lowest g.C.TweakableCipher g.R.Record c.args.self.now.geometry c.args.self.now.cipher c.args.memory.now c.loop-slot.slot
    (omega arith) c.loop-slot.invariant _ (sym c.read_page.ensures ∙ c.in_err-read_page.was))

pub loop-slot-preserved : goal.loop-slot-preserved
loop-slot-preserved g c =
    says_more g.C.TweakableCipher g.R.Record c.args.self.now.geometry c.args.self.now.cipher c.args.memory.now c.loop-slot.slot
    c.loop-slot.invariant c.in_ok-read_page.field-0 (sym c.read_page.ensures ∙ c.in_ok-read_page.was)

pub returns : goal.returns
returns g c = λ k h. c.loop-slot.invariant k (omega arith)
