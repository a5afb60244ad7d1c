use Rattle.std.proofs.Common.{◌*◌, ◌++◌, length, drop, set, ap, ◌∙◌}
use Rattle.record.specs.Settings.{wide}
use Rattle.record.specs.Sixteens.{sixteens}
use Rattle.record.specs.ParameterReading.{last_byte}
use Rattle.record.proofs.parameters.making.ParameterSetRecord.write.Goals as goal

pub returns : goal.returns
returns c =
    let out = c.args.out.now in
    let f = c.args.self.now.fields in
    ap (λ m. set m 8 f.mode)
    (c.write_sixteens.ensures
    ∙ ap (λ ns. sixteens ns ++ drop (2 * length ns) out) c.wide.ensures
    ∙ ap (λ r. sixteens (wide f) ++ r) (last_byte out c.requires))
