use Rattle.std.proofs.Common.{rules}
use Rattle.ciphers.specs.Ciphers.{encrypts}
use Rattle.mode.specs.Permutes.{enciphered}
use Rattle.c_api.proofs.messages.dikhelwa_encipher.Goals as goal

pub returns : goal.returns
returns c = c.on_message.ensures (λ c. enciphered (encrypts c)) (search rules)
