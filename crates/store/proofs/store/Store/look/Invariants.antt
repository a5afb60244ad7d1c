use Rattle.std.proofs.Common.{ℕ, ◌<◌}
use Rattle.calls.specs.Calls.{Says}
use Rattle.store.proofs.store.Store.look.Given as goal

abbrev pub invariant-loop-slot : goal.invariant-loop-slot
invariant-loop-slot g l = (k : ℕ) → k < l.slot → Says g.C.TweakableCipher g.R.Record l.self.geometry l.self.cipher l.memory k
