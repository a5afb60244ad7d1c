use Rattle.std.proofs.Common.{rules}
use Rattle.aes.specs.Words.{state}
use Rattle.aes.proofs.columns.BlockFromColumns.from.Goals as goal

pub returns : goal.returns
unfolding state
returns c = search rules
