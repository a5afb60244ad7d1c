-- Doubling on two words of 64 bits is multiplication by α.
use Rattle.std.proofs.Common.{◌≡◌, ℕ, ◌+◌, ◌*◌, ◌/◌, ◌%◌, ◌^◌, ◌<◌, sym, ap, ◌∙◌, ap₂, arith}
use lib.Arith.{digits_mod, digits_div}
use lib.Bits.{bit_xor, bit_or, or_shifted, xor_block, xor_zero_r}
use Rattle.block.specs.Alpha.{α, joined}

lows : (l : ℕ) → l * 2 ≡ l / 2 ^ 63 * 2 ^ 64 + l % 2 ^ 63 * 2
lows l = omega arith

wholes : (h l : ℕ) → 2 * joined h l ≡ h / 2 ^ 63 * 2 ^ 128 + ((h % 2 ^ 63 * 2 + l / 2 ^ 63) * 2 ^ 64 + l % 2 ^ 63 * 2)
wholes h l = omega arith

tops : (h l : ℕ) → joined h l ≡ h / 2 ^ 63 * 2 ^ 127 + (h % 2 ^ 63 * 2 ^ 64 + l)
tops h l = omega arith

ones : (x : ℕ) → x < 2 → x % 2 * 135 ≡ 0 * 2 ^ 64 + x * 135
ones x p = omega arith

pub words_α : (h l : ℕ) → h < 2 ^ 64 → l < 2 ^ 64
    → joined (bit_or (h * 2 % 2 ^ 64) (l / 2 ^ 63)) (bit_xor (l * 2 % 2 ^ 64) (h / 2 ^ 63 * 135)) ≡ α (joined h l)
words_α h l p q =
    let b : ℕ = l * 2 % 2 ^ 64 in
    let c : ℕ = h / 2 ^ 63 * 135 in
    let a : ℕ = h % 2 ^ 63 * 2 + l / 2 ^ 63 in
    let high : bit_or (h * 2 % 2 ^ 64) (l / 2 ^ 63) ≡ a = ap (λ x. bit_or x (l / 2 ^ 63)) (omega arith) ∙ or_shifted (h % 2 ^ 63) 1 (l / 2 ^ 63) (omega arith) in
    let low : b ≡ l % 2 ^ 63 * 2 = ap (λ x. x % 2 ^ 64) (lows l) ∙ digits_mod (l / 2 ^ 63) (omega arith) in
    let twice : 2 * joined h l % 2 ^ 128 ≡ a * 2 ^ 64 + b =
    ap (λ x. x % 2 ^ 128) (wholes h l) ∙ digits_mod (h / 2 ^ 63) {m = 2 ^ 128} {r = a * 2 ^ 64 + l % 2 ^ 63 * 2} (omega arith) ∙ ap (λ x. a * 2 ^ 64 + x) (sym low) in
    let out : joined h l / 2 ^ 127 ≡ h / 2 ^ 63 = ap (λ x. x / 2 ^ 127) (tops h l) ∙ digits_div (h / 2 ^ 63) {m = 2 ^ 127} {r = h % 2 ^ 63 * 2 ^ 64 + l} (omega arith) in
    let carry : joined h l / 2 ^ 127 % 2 * 135 ≡ 0 * 2 ^ 64 + c = ap (λ x. x % 2 * 135) out ∙ ones (h / 2 ^ 63) (omega arith) in
    ap (λ x. joined x (bit_xor b c)) (high ∙ sym (xor_zero_r a))
    ∙ sym (ap₂ bit_xor twice carry ∙ xor_block 64 a 0 b c (omega arith) (omega arith))
