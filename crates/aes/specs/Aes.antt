-- AES-128 as FIPS 197 has it. A state is 16 bytes, column by column.
use Rattle.std.specs.Prelude.{◌≡◌, ℕ, zero, suc, ◌*◌, List, [], ◌∷◌, ◌++◌, map, take, drop, bit_xor, slice_index}
use Rattle.std.specs.Simd.Lanes.{zip2, pick_l}
use Rattle.std.specs.Int.Digits.{number_from_digits}
use Rattle.block.specs.Blocks.{IsBlock, bytes}
use Rattle.aes.specs.Field.{double, times, sbox, inv_sbox}

abbrev pub State : Type 0
State = List ℕ

abbrev pub add : List ℕ → List ℕ → List ℕ
add = zip2 bit_xor

abbrev pub column : ℕ → State → List ℕ
column c s = take 4 (drop (4 * c) s)

-- ---- the steps of a round, and their inverses

abbrev pub sub_bytes : State → State
sub_bytes = map sbox

abbrev pub inv_sub_bytes : State → State
inv_sub_bytes = map inv_sbox

-- row r turns left by r places: the old place of each byte
abbrev pub leftward : List ℕ
leftward = 0 ∷ 5 ∷ 10 ∷ 15 ∷ 4 ∷ 9 ∷ 14 ∷ 3 ∷ 8 ∷ 13 ∷ 2 ∷ 7 ∷ 12 ∷ 1 ∷ 6 ∷ 11 ∷ []

unfoldable pub shifted_rows : State → State
shifted_rows s = pick_l 0 s leftward

-- and right
abbrev pub rightward : List ℕ
rightward = 0 ∷ 13 ∷ 10 ∷ 7 ∷ 4 ∷ 1 ∷ 14 ∷ 11 ∷ 8 ∷ 5 ∷ 2 ∷ 15 ∷ 12 ∷ 9 ∷ 6 ∷ 3 ∷ []

unfoldable pub inv_shift_rows : State → State
inv_shift_rows s = pick_l 0 s rightward

abbrev pub dot : (i j k l : ℕ) (a b c d : ℕ) → ℕ
dot i j k l a b c d = bit_xor (bit_xor (bit_xor (times i a) (times j b)) (times k c)) (times l d)

-- a byte of a column becomes i times itself, j times the next, k times the one after that and l times the last, going round
abbrev pub circulant : (i j k l : ℕ) (a b c d : ℕ) → List ℕ
circulant i j k l a b c d = dot i j k l a b c d ∷ dot i j k l b c d a ∷ dot i j k l c d a b ∷ dot i j k l d a b c ∷ []

abbrev pub on_column : (i j k l : ℕ) → List ℕ → List ℕ
on_column i j k l w = circulant i j k l (slice_index w 0) (slice_index w 1) (slice_index w 2) (slice_index w 3)

unfoldable pub on_columns : (i j k l : ℕ) → State → State
on_columns i j k l s = on_column i j k l (column 0 s) ++ (on_column i j k l (column 1 s) ++ (on_column i j k l (column 2 s) ++ on_column i j k l (column 3 s)))

abbrev pub mixed_columns : State → State
mixed_columns = on_columns 2 3 1 1

abbrev pub inv_mixed_columns : State → State
inv_mixed_columns = on_columns 14 11 13 9

-- ---- the key schedule

-- the last column turned by one byte, through the S-box, with the round constant added to its first byte
abbrev pub key_core : ℕ → List ℕ → List ℕ
key_core rc w = bit_xor (sbox (slice_index w 1)) rc ∷ sbox (slice_index w 2) ∷ sbox (slice_index w 3) ∷ sbox (slice_index w 0) ∷ []

unfoldable pub key_after : ℕ → State → State
key_after rc k =
    let a = add (column 0 k) (key_core rc (column 3 k)) in
    let b = add (column 1 k) a in
    let c = add (column 2 k) b in
    let d = add (column 3 k) c in
    a ++ (b ++ (c ++ d))

unfoldable pub round_constant : ℕ → ℕ
round_constant zero = 1
round_constant (suc i) = double (round_constant i)

unfoldable pub round_key : State → ℕ → State
round_key key zero = key
round_key key (suc i) = key_after (round_constant i) (round_key key i)

-- ---- the cipher and its inverse

unfoldable pub round : State → State → State
round k s = add (mixed_columns (shifted_rows (sub_bytes s))) k

-- the first round key added, and then n rounds
unfoldable pub rounds : State → ℕ → State → State
rounds key zero s = add s (round_key key 0)
rounds key (suc n) s = round (round_key key (suc n)) (rounds key n s)

unfoldable pub cipher : State → State → State
cipher key s = add (shifted_rows (sub_bytes (rounds key 9 s))) (round_key key 10)

unfoldable pub inv_round_of : State → State → State
inv_round_of k s = inv_mixed_columns (add (inv_sub_bytes (inv_shift_rows s)) k)

-- the inverse rounds from n down to 1
unfoldable pub inv_rounds : State → ℕ → State → State
inv_rounds key zero s = s
inv_rounds key (suc n) s = inv_rounds key n (inv_round_of (round_key key (suc n)) s)

unfoldable pub inv_cipher : State → State → State
inv_cipher key s = add (inv_sub_bytes (inv_shift_rows (inv_rounds key 9 (add s (round_key key 10))))) (round_key key 0)

-- ---- on blocks, which are numbers of 16 bytes

unfoldable pub aes_encrypted : ℕ → ℕ → ℕ
aes_encrypted key x = number_from_digits 256 (cipher (bytes 16 key) (bytes 16 x))

unfoldable pub aes_decrypted : ℕ → ℕ → ℕ
aes_decrypted key x = number_from_digits 256 (inv_cipher (bytes 16 key) (bytes 16 x))

-- under every key each of the two undoes the other
pub record Inverses : Type 0 where
  pub decenc : (key x : ℕ) → IsBlock x → aes_decrypted key (aes_encrypted key x) ≡ x
  pub encdec : (key x : ℕ) → IsBlock x → aes_encrypted key (aes_decrypted key x) ≡ x

-- the examples of FIPS 197, appendices B and C.1
pub record Examples : Type 0 where
  pub first : aes_encrypted 0x2b7e151628aed2a6abf7158809cf4f3c 0x3243f6a8885a308d313198a2e0370734 ≡ 0x3925841d02dc09fbdc118597196a0b32
  pub second : aes_encrypted 0x000102030405060708090a0b0c0d0e0f 0x00112233445566778899aabbccddeeff ≡ 0x69c4e0d86a7b0430d8cdb78070b4c55a
