-- Two writes of 16 bytes side by side, and 16 bytes read as a sum.
use Rattle.std.proofs.Common.{◌≡◌, ℕ, ◌+◌, ◌-◌, ◌≤◌, List, ◌++◌, length, take, drop, sym, ap, ◌∙◌, ap₂, append_assoc, arith}
use borrow.Rule.Slice.PartMut.{put_mid}
use Rattle.std.proofs.lemmas.List.{length-append, length-take-le, take_at, drop_at, drop-drop}

pub put_two : (a : ℕ) (m v w : List ℕ) → length v ≡ 16 → a + 32 ≤ length m
    → put_mid (a + 16) (a + 32 - (a + 16)) (put_mid a (a + 16 - a) m v) w ≡ take a m ++ ((v ++ w) ++ drop (a + 32) m)
put_two a m v w e h =
    let k : a + 16 - a ≡ 16 = omega arith in
    let j : a + 32 - (a + 16) ≡ 16 = omega arith in
    let front : List ℕ = take a m ++ v in
    let len : length front ≡ a + 16 = length-append (take a m) v ∙ ap₂ (λ x y. x + y) (length-take-le a m (omega arith)) e in
    let once : put_mid a (a + 16 - a) m v ≡ front ++ drop (a + 16) m =
    ap (λ n. put_mid a n m v) k ∙ ap (λ r. take a m ++ (v ++ r)) (drop-drop 16 a m) ∙ sym (append_assoc (take a m) v (drop (a + 16) m)) in
    ap₂ (λ p n. put_mid (a + 16) n p w) once j
    ∙ ap₂ (λ x y. x ++ (w ++ drop 16 y)) (take_at front (drop (a + 16) m) (a + 16) len) (drop_at front (drop (a + 16) m) (a + 16) len)
    ∙ ap (λ r. front ++ (w ++ r)) (drop-drop 16 (a + 16) m ∙ ap (λ n. drop n m) (rest a))
    ∙ append_assoc (take a m) v (w ++ drop (a + 32) m)
    ∙ ap (λ r. take a m ++ r) (sym (append_assoc v w (drop (a + 32) m)))
  where
    rest : (a : ℕ) → a + 16 + 16 ≡ a + 32
    rest a = omega arith
