use Rattle.std.proofs.Common.{◌∙◌}
use Rattle.aes.proofs.Loops.{encrypted_walked}
use Rattle.aes.proofs.Aes.encrypt.Goals as goal

pub returns : goal.returns
returns c = c.walk.ensures ∙ encrypted_walked c.args.self.now.key c.args.block c.args.self.now.expanded
