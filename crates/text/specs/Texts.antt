-- Texts as lists of bytes, and what it is to read one.
use Rattle.std.specs.Prelude.{◌≡◌, ℕ, ◌/◌, ◌%◌, ◌<◌, Bool, true, false, List, [], ◌∷◌, ◌++◌, length, Some, None, decimal, Option, ◌≢◌}
use Rattle.std.specs.Char.{digit_char}
use Rattle.std.specs.Int.Digits.{AllBelowBase}
use Rattle.std.specs.List.{AllByRecursion}

-- the answer of a reader, where `t` gives the text of each value: `Some x` where the text is that of an admitted x,
-- and `None` where it is that of none
abbrev pub Reads : {X Y : Type 0} → (X → Type 0) → (X → Y) → Y → Option X → Type 0
Reads {X} Admitted t text None = (x : X) → Admitted x → text ≢ t x
Reads Admitted t text (Some x) = Admitted x × (text ≡ t x)

-- a number of one to five digits
abbrev pub Small : ℕ → Type 0
Small n = n < 100000

abbrev pub Seven : List ℕ → Type 0
Seven ns = (length ns ≡ 7) × AllByRecursion Small ns

-- no comma
abbrev pub Free : List ℕ → Type 0
Free bs = AllByRecursion (λ b. b ≢ 44) bs

-- a text's piece before its first comma, or the whole, and what follows that comma
abbrev pub Cut : List ℕ → List ℕ → Option (List ℕ) → Type 0
Cut text piece None = text ≡ piece
Cut text piece (Some more) = text ≡ piece ++ (44 ∷ more)

-- numbers with commas between them
unfoldable pub listed : List ℕ → List ℕ
listed [] = []
listed (n ∷ []) = decimal n
listed (n ∷ (m ∷ ns)) = decimal n ++ (44 ∷ listed (m ∷ ns))

-- the answer of a reader of n numbers
abbrev pub Filled : ℕ → List ℕ → Option (List ℕ) → Type 0
Filled n bs read = Reads (λ ns. (length ns ≡ n) × AllByRecursion Small ns) listed bs read

-- a lower-case hexadecimal digit
abbrev pub IsDigit : ℕ → Type 0
IsDigit b = (d : ℕ) × (d < 16) × (b ≡ digit_char d)

-- bytes in lower-case hexadecimal digits, two to a byte, the high one first
unfoldable pub hex : List ℕ → List ℕ
hex [] = []
hex (b ∷ bs) = digit_char (b / 16) ∷ (digit_char (b % 16) ∷ hex bs)

-- whether a text was that of as many bytes as `out` has room for; if so, `out` holds them
abbrev pub Unhexed : List ℕ → List ℕ → Bool → Type 0
Unhexed text out true = AllBelowBase 256 out × (text ≡ hex out)
Unhexed text out false = (bs : List ℕ) → length bs ≡ length out → AllBelowBase 256 bs → text ≢ hex bs

-- the answer of a reader of n bytes
abbrev pub UnhexedArray : ℕ → List ℕ → Option (List ℕ) → Type 0
UnhexedArray n text read = Reads (λ bs. (length bs ≡ n) × AllBelowBase 256 bs) hex text read
