use Rattle.std.proofs.Common.{◌∙◌}
use Rattle.aes.proofs.Loops.{decrypted_walked}
use Rattle.aes.proofs.Aes.decrypt.Goals as goal

pub returns : goal.returns
returns c = c.walk.ensures ∙ decrypted_walked c.args.self.now.key c.args.block c.args.self.now.inverted
