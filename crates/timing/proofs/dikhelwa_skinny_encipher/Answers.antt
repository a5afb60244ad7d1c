use Rattle.std.proofs.Common.{rules}
use Rattle.skinny.specs.Skinny.{encrypt_block}
use Rattle.mode.specs.Permutes.{enciphered}
use Rattle.timing.proofs.dikhelwa_skinny_encipher.Goals as goal

pub returns-clause-wrote : goal.returns-clause-wrote
returns-clause-wrote c = c.on_message.ensures.wrote (λ key. enciphered (encrypt_block key)) (search rules)
