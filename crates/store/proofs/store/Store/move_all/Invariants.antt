use Rattle.std.proofs.Common.{◌≡◌, ℕ, ◌<◌, ◌≤◌}
use Rattle.mode.specs.Permutes.{enciphered, deciphered}
use Rattle.calls.specs.Memory.{page}
use Rattle.store.proofs.store.Store.move_all.Given as goal

abbrev pub invariant-loop-slot : goal.invariant-loop-slot
invariant-loop-slot g l =
    let 𝒸 = g.C.TweakableCipher in
    let w = l.self.geometry.page in
    ((k : ℕ) → k < l.slot → page w k l.memory ≡ enciphered (𝒸.encrypted l.to) (deciphered (𝒸.encrypted l.self.cipher) (𝒸.decrypted l.self.cipher) (page w k l.initial.memory)))
    × ((k : ℕ) → l.slot ≤ k → page w k l.memory ≡ page w k l.initial.memory)
