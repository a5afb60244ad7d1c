use Rattle.skinny.specs.Skinny.{round_of}
use Rattle.skinny.proofs.rounds.round.Goals as goal

pub returns : goal.returns
unfolding round_of
returns c = simp (c.mix_columns.ensures, c.shift_rows.ensures, c.sub_cells.ensures)
