use Rattle.std.proofs.Common.{get_or, refl, ap, ◌∙◌, w32, rules}
use Rattle.std.proofs.lemmas.Int.{to_z-of_z}
use Rattle.record.specs.Sixteens.{signed}
use Rattle.record.specs.Parameters.{making}
use Rattle.record.specs.ParameterReading.{same}
use Rattle.record.proofs.parameters.making.ParameterSetRecord.read.Goals as goal

pub returns : goal.returns
returns c =
    c.new.ensures.value
    ∙ ap making
    (same {e = get_or c.args.bytes.now 8 0}
    c.read_sixteen.ensures.value
    (to_z-of_z w32 c.from_twos.result (search rules) ∙ c.from_twos.ensures ∙ ap signed c.read_sixteen-2.ensures.value)
    c.read_sixteen-3.ensures.value
    c.read_sixteen-4.ensures.value
    refl)
