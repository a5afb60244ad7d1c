use Rattle.std.proofs.Common.{◌≡◌, sym, ap, ◌∙◌, subst}
use Rattle.std.proofs.lemmas.Result.{err_from_is_err_and}
use Rattle.block.proofs.Sixteen.{spread-all}
use Rattle.record.specs.Fields.{list_of, fields_of}
use Rattle.record.specs.Sheets.{making}
use Rattle.record.specs.Reading.{made-fields}
use Rattle.text.specs.Texts.{Reads, Seven, listed}
use Rattle.commission.proofs.intake.sheet_of.Goals as goal

pub returns-in_err-sheet : goal.returns-in_err-sheet
returns-in_err-sheet c =
    let ns = c.in_ok-numbers.numbers in
    let read = subst (Reads Seven listed c.args.line.now) c.in_ok-numbers.ensures.ok_part c.seven.ensures in
    let all : ns ≡ list_of (fields_of ns) = sym (spread-all 7 ns read.0.0) in
    let p = err_from_is_err_and c.from_residual-in_err-sheet.result c.from_residual-in_err-sheet.ensures.1 in
    rw (p.1, p.2)
    (fields_of ns, subst Seven all read.0, read.1 ∙ ap listed all, ap making (sym c.from.ensures) ∙ sym c.in_err-sheet.ensures.value)

pub returns : goal.returns
returns c =
    let ns = c.in_ok-numbers.numbers in
    let read = subst (Reads Seven listed c.args.line.now) c.in_ok-numbers.ensures.ok_part c.seven.ensures in
    let made = made-fields c.from.result c.in_ok-sheet.sheet (sym c.in_ok-sheet.ensures.value) in
    read.1 ∙ ap listed (sym (spread-all 7 ns read.0.0) ∙ ap list_of (sym c.from.ensures ∙ made))
