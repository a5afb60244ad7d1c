use Rattle.std.proofs.Common.{rules}
use Rattle.cascade.specs.Cascade.{cascade_decrypted}
use Rattle.timing.proofs.dikhelwa_cascade_decrypt.Goals as goal

pub returns-clause-wrote : goal.returns-clause-wrote
returns-clause-wrote c = c.on_tweaked.ensures.wrote cascade_decrypted (search rules)
