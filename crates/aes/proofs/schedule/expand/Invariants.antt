use Rattle.std.proofs.Common.{◌≡◌, length, map, take}
use Rattle.std.specs.List.{range_with_len}
use Rattle.aes.specs.Aes.{round_constant, round_key}
use Rattle.aes.specs.Words.{state}
use Rattle.aes.proofs.schedule.expand.Given as goal

abbrev pub invariant-loop-place : goal.invariant-loop-place
invariant-loop-place l =
    (length l.place-items ≡ 11)
    × (l.constant ≡ round_constant l.place-index)
    × (state l.k ≡ round_key (state l.initial.k) l.place-index)
    × (map state (take l.place-index l.place-items) ≡ map (round_key (state l.initial.k)) (range_with_len 0 l.place-index))
