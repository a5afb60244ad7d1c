-- Texts written one after another.
use Rattle.std.proofs.Common.{◌≡◌, ℕ, suc, ◌+◌, ◌-◌, ◌*◌, ◌/◌, ◌%◌, ◌^◌, ◌<◌, ◌≤◌, List, [], ◌∷◌, ◌++◌, length, get_or, take, drop, set, decimal, sym, refl, ap, ◌∙◌, subst, append_assoc, add-one, arith}
use Rattle.std.specs.Char.{digit_char}
use Rattle.std.specs.List.{AllByRecursion}
use Rattle.std.proofs.lemmas.Fmt.{decimal_digit, decimal_step, length-decimal-le}
use Rattle.std.proofs.lemmas.List.{set_split, take_at, drop_at, drop-drop, length-append, length-drop, length_push, length-set, length-take-le, take-append-drop, take_more, take_rest}
use Rattle.text.specs.Texts.{listed, hex}
use Rattle.writer.specs.Writes.{Written}
use Rattle.text.proofs.Hexes.{hex_none, hex-push, length-hex}

pub written_none : (old : List ℕ) (at : ℕ) → Written old at [] old at
written_none old at = let z : at + 0 ≡ at = omega arith in record { after = rw z (sym (take-append-drop at old)); stops = sym z }

-- two writes, one after the other, are one write of the joined text
pub written_more : (old mid new a b : List ℕ) (at i j : ℕ) → at + length a ≤ length old → Written old at a mid i → Written mid i b new j → Written old at (a ++ b) new j
written_more old mid new a b at i j room h k =
    let front = take at old ++ a in
    let rest = drop (at + length a) old in
    let l = length-append a b in
    let lf : length front ≡ i = let la = length-take-le at old (omega arith) in omega (arith, length-append (take at old) a) in
    let m : mid ≡ front ++ rest = h.after ∙ sym (append_assoc (take at old) a rest) in
    let t : take i mid ≡ front = ap (take i) m ∙ take_at front rest i lf in
    let d : drop i mid ≡ rest = ap (drop i) m ∙ drop_at front rest i lf in
    let n : at + length a + length b ≡ at + length (a ++ b) = omega arith in
    let e : drop (i + length b) mid ≡ drop (at + length (a ++ b)) old = sym (drop-drop (length b) i mid) ∙ ap (drop (length b)) d ∙ drop-drop (length b) (at + length a) old ∙ ap (λ x. drop x old) n in
    record { after = simp append_assoc (simp (t, e, append_assoc) at k.after); stops = omega arith }

-- one byte after a write
pub written_push : (old mid text : List ℕ) (at i b : ℕ) → at + length text < length old → length mid ≡ length old → Written old at text mid i → Written old at (text ++ (b ∷ [])) (set mid i b) (i + 1)
written_push old mid text at i b room len h =
    written_more old mid (set mid i b) text (b ∷ []) at i (i + 1) (omega arith) h (record { after = rw add-one (set_split mid i b (omega arith)); stops = refl })

-- a number: its one digit, or its last one after the others
pub length_decimal_step : (n : ℕ) → 10 ≤ n → n < 2 ^ 64 → length (decimal n) ≡ length (decimal (n / 10)) + 1
length_decimal_step n h w = ap length (decimal_step n h w) ∙ length_push (decimal (n / 10)) (48 + n % 10)

pub written_digit : (old : List ℕ) (at n : ℕ) → n < 10 → at < length old → Written old at (decimal n) (set old at (48 + n)) (at + 1)
written_digit old at n h l = rw (decimal_digit n h) (written_push old old [] at at (48 + n) (omega arith) refl (written_none old at))

pub written_last : (old mid : List ℕ) (at n i : ℕ) → 10 ≤ n → n < 2 ^ 64 → at + length (decimal n) ≤ length old → length mid ≡ length old → Written old at (decimal (n / 10)) mid i → Written old at (decimal n) (set mid i (48 + n % 10)) (i + 1)
written_last old mid at n i h w room len k =
    rw (decimal_step n h w) (written_push old mid (decimal (n / 10)) at i (48 + n % 10) (omega (arith, length_decimal_step n h w)) len k)

-- numbers: none, one; the first of several, a comma, the others
pub listed_none : (ns : List ℕ) → length ns ≡ 0 → listed ns ≡ []
unfolding listed
listed_none [] h = refl
listed_none (n ∷ ns) h = absurd (omega arith)

pub listed_one : (ns : List ℕ) → length ns ≡ 1 → listed ns ≡ decimal (get_or ns 0 0)
unfolding listed
listed_one [] h = absurd (omega arith)
listed_one (n ∷ []) h = refl
listed_one (n ∷ (m ∷ ns)) h = absurd (omega arith)

pub listed_first : (ns : List ℕ) → 1 < length ns → listed ns ≡ decimal (get_or ns 0 0) ++ (44 ∷ listed (take (length ns - 1) (drop 1 ns)))
unfolding listed
listed_first [] h = absurd (omega arith)
listed_first (n ∷ []) h = absurd (omega arith)
listed_first (n ∷ (m ∷ ns)) h = rw (take_rest (n ∷ (m ∷ ns)) 1)

pub length_listed_first : (ns : List ℕ) → 1 < length ns → length (listed ns) ≡ length (decimal (get_or ns 0 0)) + suc (length (listed (take (length ns - 1) (drop 1 ns))))
length_listed_first ns h = ap length (listed_first ns h) ∙ length-append (decimal (get_or ns 0 0)) (44 ∷ listed (take (length ns - 1) (drop 1 ns)))

pub written_rest : (old mid new ns : List ℕ) (at i j : ℕ) → 1 < length ns → at + length (listed ns) ≤ length old → length mid ≡ length old → Written old at (decimal (get_or ns 0 0)) mid i → Written (set mid i 44) (i + 1) (listed (take (length ns - 1) (drop 1 ns))) new j → Written old at (listed ns) new j
written_rest old mid new ns at i j two room len h k =
    let n = decimal (get_or ns 0 0) in
    let rest = listed (take (length ns - 1) (drop 1 ns)) in
    let l = length_listed_first ns two in
    let z = length_push n 44 in
    let a = written_push old mid n at i 44 (omega arith) len h in
    let b = written_more old (set mid i 44) new (n ++ (44 ∷ [])) rest at (i + 1) j (omega arith) a k in
    subst (λ x. Written old at x new j) (append_assoc n (44 ∷ []) rest ∙ sym (listed_first ns two)) b

short : (n : ℕ) → n < 2 ^ 32 → length (decimal n) ≤ 10
short n h = length-decimal-le 10 n (omega arith) (omega arith) (omega arith)

-- at most ten digits to a number, and a comma
pub length-listed : (ns : List ℕ) → AllByRecursion (λ n. n < 2 ^ 32) ns → length (listed ns) ≤ 11 * length ns
unfolding listed
length-listed [] h = omega arith
length-listed (n ∷ []) h = omega (arith, short n h.0)
length-listed (n ∷ (m ∷ ns)) h = omega (arith, short n h.0, length-listed (m ∷ ns) h.1, length-append (decimal n) (44 ∷ listed (m ∷ ns)))

-- bytes in hexadecimal: none, and one more
pub written_hex_none : (old : List ℕ) (at : ℕ) → Written old at (hex []) old (at + 2 * 0)
written_hex_none old at = let z : at + 2 * 0 ≡ at = omega arith in rw (hex_none, z) (written_none old at)

pub written_hex_more : (old mid bytes : List ℕ) (at i high low : ℕ) → i < length bytes → at + 2 * length bytes ≤ length old → length mid ≡ length old → high ≡ digit_char (get_or bytes i 0 / 16) → low ≡ digit_char (get_or bytes i 0 % 16) → Written old at (hex (take i bytes)) mid (at + 2 * i) → Written old at (hex (take (i + 1) bytes)) (set (set mid (at + 2 * i) high) (at + 2 * i + 1) low) (at + 2 * (i + 1))
written_hex_more old mid bytes at i high low l room len eh el h =
    let text = hex (take i bytes) in
    let lt : length (take i bytes) ≡ i = length-take-le i bytes (omega arith) in
    let lh = length-hex (take i bytes) in
    let lp = length_push text high in
    let one = written_push old mid text at (at + 2 * i) high (omega arith) len h in
    let two = written_push old (set mid (at + 2 * i) high) (text ++ (high ∷ [])) at (at + 2 * i + 1) low (omega arith) (length-set mid (at + 2 * i) high ∙ len) one in
    let t : hex (take (i + 1) bytes) ≡ text ++ (high ∷ []) ++ (low ∷ []) = rw (eh, el, append_assoc) (ap hex (take_more bytes i 0 l) ∙ hex-push (take i bytes) (get_or bytes i 0)) in
    let n : at + 2 * (i + 1) ≡ at + 2 * i + 1 + 1 = omega arith in
    rw (n, t) two

-- what was written fits
pub written_within : (old text new : List ℕ) (at end : ℕ) → at ≤ length old → length new ≡ length old → Written old at text new end → end ≤ length old
written_within old text new at end h same w =
    let front = length-take-le at old h in
    let long : length new ≡ at + (length text + (length old - (at + length text))) =
    ap length w.after ∙ length-append (take at old) (text ++ drop (at + length text) old)
    ∙ ap (λ n. n + length (text ++ drop (at + length text) old)) front
    ∙ ap (λ n. at + n) (length-append text (drop (at + length text) old) ∙ ap (λ n. length text + n) (length-drop (at + length text) old)) in
    omega (arith, w.stops)
