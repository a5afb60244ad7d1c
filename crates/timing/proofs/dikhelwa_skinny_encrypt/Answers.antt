use Rattle.std.proofs.Common.{rules}
use Rattle.skinny.specs.Skinny.{encrypt_block}
use Rattle.timing.proofs.dikhelwa_skinny_encrypt.Goals as goal

pub returns-clause-wrote : goal.returns-clause-wrote
returns-clause-wrote c = c.on_tweaked.ensures.wrote encrypt_block (search rules)
