-- Hexadecimal digits, two to a byte.
use Rattle.std.proofs.Common.{◌≡◌, ℕ, zero, suc, ◌+◌, ◌*◌, ◌/◌, ◌%◌, ◌<◌, ◌≤◌, List, [], ◌∷◌, ◌++◌, length, get_or, take, set, rules, Option, Some, None, sym, ⊎_elim, refl, ap, ◌∙◌, append_assoc, arith}
use Rattle.std.specs.Char.{digit_char, digit_value}
use Rattle.std.specs.Int.Digits.{AllBelowBase}
use Rattle.std.proofs.ByRecursion.{All-push, All-get_or}
use Rattle.std.proofs.lemmas.Bool.{cases_lt}
use Rattle.std.proofs.lemmas.List.{take_more, take_more_set}
use Rattle.std.proofs.lemmas.Str.{digit_value-digit_char}
use Rattle.std.specs.Option.{IsSome}
use Rattle.text.specs.Texts.{Reads, IsDigit, hex}

pub length-hex : (bs : List ℕ) → length (hex bs) ≡ 2 * length bs
unfolding hex
length-hex [] = refl
length-hex (b ∷ bs) = let h = length-hex bs in omega arith

pub hex_none : hex [] ≡ []
unfolding hex
hex_none = refl

pub hex-push : (bs : List ℕ) (b : ℕ) → hex (bs ++ (b ∷ [])) ≡ hex bs ++ (digit_char (b / 16) ∷ (digit_char (b % 16) ∷ []))
unfolding hex
hex-push [] b = refl
hex-push (x ∷ bs) b = ap (λ t. digit_char (x / 16) ∷ (digit_char (x % 16) ∷ t)) (hex-push bs b)

-- the digits of byte i
pub hex_high : (bs : List ℕ) (i : ℕ) → i < length bs → get_or (hex bs) (2 * i) 0 ≡ digit_char (get_or bs i 0 / 16)
unfolding hex
hex_high [] i h = absurd (omega arith)
hex_high (b ∷ bs) zero h = refl
hex_high (b ∷ bs) (suc i) h = let e : 2 * suc i ≡ suc (suc (2 * i)) = omega arith in rw e (hex_high bs i (omega arith))

pub hex_low : (bs : List ℕ) (i : ℕ) → i < length bs → get_or (hex bs) (2 * i + 1) 0 ≡ digit_char (get_or bs i 0 % 16)
unfolding hex
hex_low [] i h = absurd (omega arith)
hex_low (b ∷ bs) zero h = refl
hex_low (b ∷ bs) (suc i) h = let e : 2 * suc i + 1 ≡ suc (suc (2 * i + 1)) = omega arith in rw e (hex_low bs i (omega arith))

-- each byte of such a text is a digit
pub hex_digit : (bs : List ℕ) (k : ℕ) → k < length (hex bs) → AllBelowBase 256 bs → IsDigit (get_or (hex bs) k 0)
hex_digit bs k l all =
    let i = k / 2 in
    let here : i < length bs = omega (arith, length-hex bs) in
    let small : get_or bs i 0 < 256 = All-get_or (λ d. d < 256) bs i 0 here all in
    ⊎_elim
    (λ (h : k % 2 < 1). let e : k ≡ 2 * i = omega arith in (get_or bs i 0 / 16, omega arith, ap (λ j. get_or (hex bs) j 0) e ∙ hex_high bs i here))
    (λ (h : 1 ≤ k % 2). let e : k ≡ 2 * i + 1 = omega arith in (get_or bs i 0 % 16, omega arith, ap (λ j. get_or (hex bs) j 0) e ∙ hex_low bs i here))
    (cases_lt (k % 2) 1)

-- a digit has a value
pub digit_read : (b : ℕ) (read : Option ℕ) → IsDigit b → Reads (λ d. d < 16) digit_char b read → IsSome read
digit_read b (Some d) is h = search rules
digit_read b None (d, small, is) none = absurd (none d small is)

two_more : (text : List ℕ) (i : ℕ) → 2 * i + 1 < length text → take (2 * (i + 1)) text ≡ take (2 * i) text ++ (get_or text (2 * i) 0 ∷ (get_or text (2 * i + 1) 0 ∷ []))
two_more text i l =
    let e : 2 * (i + 1) ≡ 2 * i + 1 + 1 = omega arith in
    rw e (take_more text (2 * i + 1) 0 l ∙ ap (λ t. t ++ (get_or text (2 * i + 1) 0 ∷ [])) (take_more text (2 * i) 0 (omega arith))
    ∙ append_assoc (take (2 * i) text) (get_or text (2 * i) 0 ∷ []) (get_or text (2 * i + 1) 0 ∷ []))

-- the bytes read so far, and their text
abbrev pub Unhexing : List ℕ → List ℕ → ℕ → Type 0
Unhexing text out i = AllBelowBase 256 (take i out) × (take (2 * i) text ≡ hex (take i out))

pub unhexing_more : (text out : List ℕ) (i high low : ℕ) → length text ≡ 2 * length out → i < length out → high < 16 → low < 16 → get_or text (2 * i) 0 ≡ digit_char high → get_or text (2 * i + 1) 0 ≡ digit_char low → Unhexing text out i → Unhexing text (set out i (high * 16 + low)) (i + 1)
unhexing_more text out i high low len here h16 l16 he le read =
    let b = high * 16 + low in
    let t : take (i + 1) (set out i b) ≡ take i out ++ (b ∷ []) = take_more_set out i b here in
    let q : b / 16 ≡ high = omega arith in
    let r : b % 16 ≡ low = omega arith in
    let more = two_more text i (omega arith) in
    let push = hex-push (take i out) b in
    (rw t (All-push (λ d. d < 256) (take i out) b read.0 (omega arith)), cc)

digit_same : (a b : ℕ) → a < 16 → b < 16 → digit_char a ≡ digit_char b → a ≡ b
digit_same a b p q e = sym (digit_value-digit_char a (omega arith)) ∙ ap digit_value e ∙ digit_value-digit_char b (omega arith)

-- equally many bytes with one text are the same bytes
pub hex_same : (xs ys : List ℕ) → length xs ≡ length ys → AllBelowBase 256 xs → AllBelowBase 256 ys → hex xs ≡ hex ys → xs ≡ ys
unfolding hex
hex_same [] [] l p q e = refl
hex_same [] (y ∷ ys) l p q e = absurd (omega arith)
hex_same (x ∷ xs) [] l p q e = absurd (omega arith)
hex_same (x ∷ xs) (y ∷ ys) l p q e =
    let high : digit_char (x / 16) ≡ digit_char (y / 16) = ap (λ t. get_or t 0 0) e in
    let low : digit_char (x % 16) ≡ digit_char (y % 16) = ap (λ t. get_or t 1 0) e in
    let small : (x < 256) × (y < 256) = (p.0, q.0) in
    let h = digit_same (x / 16) (y / 16) (omega arith) (omega arith) high in
    let k = digit_same (x % 16) (y % 16) (omega arith) (omega arith) low in
    let s : x ≡ y = omega arith in
    let r : hex xs ≡ hex ys = cc in
    let t = hex_same xs ys (omega arith) p.1 q.1 r in cc
