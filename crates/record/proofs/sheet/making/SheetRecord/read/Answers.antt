use Rattle.std.proofs.Common.{ap, ◌∙◌}
use Rattle.record.specs.Sheets.{making}
use Rattle.record.specs.Reading.{same}
use Rattle.record.proofs.sheet.making.SheetRecord.read.Goals as goal

pub returns : goal.returns
returns c =
    c.new.ensures.value
    ∙ ap making
    (same c.read_sixteen.ensures.value c.read_sixteen-2.ensures.value c.read_sixteen-3.ensures.value c.read_sixteen-4.ensures.value c.read_sixteen-5.ensures.value c.read_sixteen-6.ensures.value c.read_sixteen-7.ensures.value)
