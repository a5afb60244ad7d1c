use Rattle.std.proofs.Common.{◌≡◌, length}
use Rattle.std.specs.Option.{option_map}
use Rattle.text.proofs.Listing.{Reading}
use Rattle.text.proofs.numerals.numbers.Given as goal

abbrev pub invariant-loop-n : goal.invariant-loop-n
invariant-loop-n g l = (length l.n-items ≡ g.row.N) × Reading l.bytes l.n-items l.n-index (option_map (λ x. x.now) l.rest)
