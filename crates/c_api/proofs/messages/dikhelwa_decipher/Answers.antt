use Rattle.std.proofs.Common.{rules}
use Rattle.ciphers.specs.Ciphers.{encrypts, decrypts}
use Rattle.mode.specs.Permutes.{deciphered}
use Rattle.c_api.proofs.messages.dikhelwa_decipher.Goals as goal

pub returns : goal.returns
returns c = c.on_message.ensures (λ c. deciphered (encrypts c) (decrypts c)) (search rules)
