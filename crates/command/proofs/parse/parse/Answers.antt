use Rattle.command.specs.Commands.{word_of}
use Rattle.command.proofs.Parts.{text-parts}
use Rattle.command.proofs.parse.parse.Goals as goal

pub returns-in_err-word-clause-reads : goal.returns-in_err-word-clause-reads
returns-in_err-word-clause-reads c = rw c.from_residual-in_err-word.ensures (λ x h e. c.in_err-word.ensures (word_of x) tt (text-parts c.in_ok-first.ensures x e).0)
