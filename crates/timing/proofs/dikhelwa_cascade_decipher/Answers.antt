use Rattle.std.proofs.Common.{rules}
use Rattle.cascade.specs.Cascade.{cascade_encrypted, cascade_decrypted}
use Rattle.mode.specs.Permutes.{deciphered}
use Rattle.timing.proofs.dikhelwa_cascade_decipher.Goals as goal

pub returns-clause-wrote : goal.returns-clause-wrote
returns-clause-wrote c = c.on_message.ensures.wrote (λ key. deciphered (cascade_encrypted key) (cascade_decrypted key)) (search rules)
