use Rattle.std.proofs.Common.{rules}
use Rattle.aes.specs.Aes.{aes_encrypted}
use Rattle.timing.proofs.dikhelwa_aes_encrypt.Goals as goal

pub returns-clause-wrote : goal.returns-clause-wrote
returns-clause-wrote c = c.on_block.ensures.wrote aes_encrypted (search rules)
