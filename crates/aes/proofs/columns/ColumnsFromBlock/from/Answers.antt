use Rattle.aes.proofs.OnWords.{from_block}
use Rattle.aes.proofs.columns.ColumnsFromBlock.from.Goals as goal

pub returns : goal.returns
returns c = from_block c.args.x
