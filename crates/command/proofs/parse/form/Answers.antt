use Rattle.std.proofs.Common.{decimal}
use Rattle.text.proofs.Cuts.{no_cut}
use Rattle.command.proofs.Parts.{form_parts, form_numbers}
use Rattle.command.proofs.parse.form.Goals as goal

pub returns-in_err-second : goal.returns-in_err-second
returns-in_err-second c = rw c.from_residual-in_err-second.ensures (λ x h e.
    let p = form_parts c.in_ok-first.ensures x h e in
    no_cut c.in_ok-first.rest.now (decimal p.slots) (decimal p.page) c.in_err-second.ensures p.more)

pub returns-in_err-cipher : goal.returns-in_err-cipher
returns-in_err-cipher c = rw c.from_residual-in_err-cipher.ensures (λ x h e.
    let p = form_parts c.in_ok-first.ensures x h e in
    c.in_err-cipher.ensures p.cipher tt p.here)

pub returns-in_err-slots : goal.returns-in_err-slots
returns-in_err-slots c = rw c.from_residual-in_err-slots.ensures (λ x h e.
    let p = form_parts c.in_ok-first.ensures x h e in
    let s = form_numbers p c.in_ok-second.ensures in
    c.in_err-slots.ensures p.slots p.small.0 s.0)

pub returns-in_err-page : goal.returns-in_err-page
returns-in_err-page c = rw c.from_residual-in_err-page.ensures (λ x h e.
    let p = form_parts c.in_ok-first.ensures x h e in
    let s = form_numbers p c.in_ok-second.ensures in
    c.in_err-page.ensures p.page p.small.1 s.1)
