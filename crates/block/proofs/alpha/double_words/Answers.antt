use Rattle.std.proofs.Common.{arith}
use Rattle.block.proofs.Words.{words_α}
use Rattle.block.proofs.alpha.double_words.Goals as goal

pub returns : goal.returns
returns c = words_α c.args.w.high c.args.w.low (omega arith) (omega arith)
