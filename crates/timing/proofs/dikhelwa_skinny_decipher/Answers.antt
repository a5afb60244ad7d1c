use Rattle.std.proofs.Common.{rules}
use Rattle.skinny.specs.Skinny.{encrypt_block, decrypt_block}
use Rattle.mode.specs.Permutes.{deciphered}
use Rattle.timing.proofs.dikhelwa_skinny_decipher.Goals as goal

pub returns-clause-wrote : goal.returns-clause-wrote
returns-clause-wrote c = c.on_message.ensures.wrote (λ key. deciphered (encrypt_block key) (decrypt_block key)) (search rules)
