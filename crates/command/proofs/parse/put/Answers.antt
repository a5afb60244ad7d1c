use Rattle.std.proofs.Common.{decimal}
use Rattle.text.specs.Texts.{listed}
use Rattle.text.proofs.Cuts.{no_cut}
use Rattle.record.specs.Fields.{list_of}
use Rattle.command.proofs.Parts.{put-parts, put_cut}
use Rattle.command.proofs.parse.put.Goals as goal

pub returns-in_err-first : goal.returns-in_err-first
returns-in_err-first c = rw c.from_residual.ensures (λ x h e.
    let p = put-parts x h e in
    no_cut c.args.bytes.now (decimal p.slot) (listed (list_of p.fields)) c.in_err-first.ensures p.is)

pub returns-in_err-slot : goal.returns-in_err-slot
returns-in_err-slot c = rw c.from_residual-in_err-slot.ensures (λ x h e.
    let p = put-parts x h e in
    let s = put_cut p c.in_ok-first.ensures in
    c.in_err-slot.ensures p.slot p.small.0 s.0)

pub returns-in_err-fields : goal.returns-in_err-fields
returns-in_err-fields c = rw c.from_residual-in_err-fields.ensures (λ x h e.
    let p = put-parts x h e in
    let s = put_cut p c.in_ok-first.ensures in
    c.in_err-fields.ensures p.fields p.small.1 s.1)
