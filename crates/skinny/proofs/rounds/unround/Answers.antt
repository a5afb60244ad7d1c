use Rattle.skinny.specs.Skinny.{unround_of}
use Rattle.skinny.proofs.rounds.unround.Goals as goal

pub returns : goal.returns
unfolding unround_of
returns c = simp (c.unsub_cells.ensures, c.unmix_and_unshift.ensures)
