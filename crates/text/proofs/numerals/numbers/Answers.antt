use Rattle.std.proofs.Common.{ℕ, length, ap, ◌∙◌, arith}
use Rattle.std.proofs.lemmas.List.{length-set, length-replicate}
use Rattle.text.proofs.Listing.{length-listed, reading_none, reading_more, unread}
use Rattle.text.proofs.numerals.numbers.Goals as goal

pub loop-n-init : goal.loop-n-init
loop-n-init g c = (length-replicate g.row.N 0, reading_none c.args.bytes.now _ (omega (arith, length-replicate {A = ℕ} g.row.N 0)))

pub returns-then-bytes : goal.returns-then-bytes
returns-then-bytes g c = λ ns h e. omega (arith, h.0, ap length e, length-listed ns h.1, c.if-bytes)

pub returns-in_err-n : goal.returns-in_err-n
returns-in_err-n g c = rw c.from_residual-in_err-n.ensures (λ ns h e.
    let read = rw c.in_ok-rest.was at c.loop-n.invariant.1 in
    unread c.args.bytes.now c.loop-n.n-items c.loop-n.n-index (omega arith) c.in_ok-rest.field-0.now c.first.result.0.now _
    read c.first.ensures.0 c.first.ensures.1 c.in_err-n.ensures ns (omega (arith, h.0), h.1, e))

pub loop-n-preserved : goal.loop-n-preserved
loop-n-preserved g c =
    let read = rw c.in_ok-rest.was at c.loop-n.invariant.1 in (
      length-set c.loop-n.n-items c.loop-n.n-index c.in_ok-n.field-0 ∙ c.loop-n.invariant.0,
      reading_more c.args.bytes.now c.loop-n.n-items c.in_ok-rest.field-0.now c.first.result.0.now c.loop-n.n-index c.in_ok-n.field-0 _ (omega arith)
          read c.first.ensures.0 c.first.ensures.1 c.in_ok-n.ensures.0 c.in_ok-n.ensures.1,
    )
