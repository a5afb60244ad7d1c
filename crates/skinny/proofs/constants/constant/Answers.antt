use Rattle.std.proofs.Common.{get_or, ap, ◌∙◌, arith}
use Rattle.std.proofs.lemmas.List.FromFn.{get_or-map-range_with_len}
use Rattle.skinny.specs.Skinny.{constant_at}
use Rattle.skinny.proofs.constants.constant.Goals as goal

-- the table's rule, carried to one entry
pub returns : goal.returns
returns c = ap (λ xs. get_or xs c.args.i 0) c.table.ensures ∙ get_or-map-range_with_len constant_at 0 56 c.args.i c.args.i 0 c.requires (omega arith)
