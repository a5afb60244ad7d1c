use Rattle.std.proofs.Common.{rules}
use Rattle.skinny.specs.Skinny.{decrypt_block}
use Rattle.timing.proofs.dikhelwa_skinny_decrypt.Goals as goal

pub returns-clause-wrote : goal.returns-clause-wrote
returns-clause-wrote c = c.on_tweaked.ensures.wrote decrypt_block (search rules)
