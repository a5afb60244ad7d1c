use Rattle.aes.proofs.OnWords.{state-xor}
use Rattle.aes.proofs.columns.ColumnsBitXor.bitxor.Goals as goal

pub returns : goal.returns
returns c = state-xor c.args.self.a c.args.self.b c.args.self.c c.args.self.d c.args.key.a c.args.key.b c.args.key.c c.args.key.d
