use Rattle.std.proofs.Common.{sym}
use Rattle.text.proofs.Digits.{cut_at, cut_none}
use Rattle.text.proofs.numerals.cut.Goals as goal

pub returns-in_err-at : goal.returns-in_err-at
returns-in_err-at c = rw c.from_residual.ensures (cut_none c.args.bytes.now (sym c.in_err-at.ensures))

pub returns : goal.returns
returns c = cut_at c.args.bytes.now c.in_ok-at.at (sym c.in_ok-at.ensures)
