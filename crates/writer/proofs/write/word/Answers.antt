use Rattle.std.proofs.Common.{rules}
use Rattle.std.proofs.lemmas.Slice.{overwrites}
use Rattle.std.proofs.lemmas.List.{drop-drop}
use Rattle.writer.proofs.write.word.Goals as goal

pub returns : goal.returns
returns c = search (rules, drop-drop, overwrites)
