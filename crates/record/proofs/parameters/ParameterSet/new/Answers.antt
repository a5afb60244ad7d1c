use Rattle.std.proofs.Common.{sym, refl}
use Rattle.record.specs.Settings.{rules as rules-of}
use Rattle.record.specs.Parameters.{made}
use Rattle.record.specs.Made.{making-sound, making-answer}
use Rattle.record.proofs.parameters.ParameterSet.new.Goals as goal

pub returns : goal.returns
returns c =
    let f = c.args.fields in
    let made-is = sym (making-sound rules-of made f _) in
    record { value = made-is; answer = making-answer rules-of made (λ s. s.fields) (λ g p. refl) f _ made-is }
