use Rattle.std.proofs.Common.{◌≡◌, ℕ, ◌<◌, None}
use Rattle.calls.specs.Memory.{page}
use Rattle.calls.specs.Calls.{sealed}
use Rattle.store.proofs.store.Store.write_all.Given as goal

abbrev pub invariant-loop-slot : goal.invariant-loop-slot
invariant-loop-slot g l = (k : ℕ) → k < l.slot → page l.self.geometry.page k l.memory ≡ sealed g.C.TweakableCipher g.R.Record l.self.geometry l.self.cipher k None
