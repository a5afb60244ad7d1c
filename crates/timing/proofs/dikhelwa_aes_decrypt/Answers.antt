use Rattle.std.proofs.Common.{rules}
use Rattle.aes.specs.Aes.{aes_decrypted}
use Rattle.timing.proofs.dikhelwa_aes_decrypt.Goals as goal

pub returns-clause-wrote : goal.returns-clause-wrote
returns-clause-wrote c = c.on_block.ensures.wrote aes_decrypted (search rules)
