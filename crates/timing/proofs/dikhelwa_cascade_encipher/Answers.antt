use Rattle.std.proofs.Common.{rules}
use Rattle.cascade.specs.Cascade.{cascade_encrypted}
use Rattle.mode.specs.Permutes.{enciphered}
use Rattle.timing.proofs.dikhelwa_cascade_encipher.Goals as goal

pub returns-clause-wrote : goal.returns-clause-wrote
returns-clause-wrote c = c.on_message.ensures.wrote (λ key. enciphered (cascade_encrypted key)) (search rules)
