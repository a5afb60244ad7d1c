-- Bytes and the numbers that they write, and di-blocks and their bytes.
use Rattle.std.proofs.Common.{◌≡◌, ℕ, zero, suc, ◌+◌, ◌*◌, ◌/◌, ◌%◌, ◌^◌, ◌<◌, ◌≤◌, List, [], ◌∷◌, ◌++◌, length, get_or, take, drop, replicate, sym, refl, ap, ◌∙◌, ap₂, lt_of_lt_of_le, mod-lt, mod-eq_of_lt, mul_assoc, add-mul, pow-suc, arith, take-add}
use native.Mathlib.Nat.{pow-succ', pow-le-pow_right}
use lib.Bits.{bit_xor, xor_lt}
use lib.Lanes.{pick_l, zip2}
use lib.Arith.{mod-mul, digits_div, digits_mod}
use Rattle.std.specs.Int.Digits.{number_from_digits, number_from_digits_after, AllBelowBase}
use Rattle.std.proofs.lemmas.Int.Digits.{number_lt}
use Rattle.std.proofs.lemmas.List.{length-take, length-drop, length-take-le}
use Rattle.block.specs.declared.diblock.DiBlock.{DiBlock}
use Rattle.block.specs.Blocks.{IsBlock, bytes, block, di, read, write, reads, writes}
use Rattle.block.proofs.Sums.{Blocks, AllBlocks}

pow256 : (k : ℕ) → zero < 256 ^ k
pow256 zero = omega arith
pow256 (suc k) = let h = pow256 k in omega (arith, pow-suc 256 k)

pub length-bytes : (k n : ℕ) → length (bytes k n) ≡ k
length-bytes zero n = refl
length-bytes (suc k) n = ap suc (length-bytes k n)

pub under_bytes : (k n : ℕ) → AllBelowBase 256 (bytes k n)
under_bytes zero n = tt
under_bytes (suc k) n = (mod-lt (n / 256 ^ k) (omega arith), under_bytes k n)

after-bytes : (k m n : ℕ) → number_from_digits_after 256 m (bytes k n) ≡ m * 256 ^ k + n % 256 ^ k
after-bytes zero m n = omega arith
after-bytes (suc k) m n =
    after-bytes k (m * 256 + n / 256 ^ k % 256) n
    ∙ omega (arith, add-mul (m * 256) (n / 256 ^ k % 256) (256 ^ k), mul_assoc m 256 (256 ^ k), ap (λ x. m * x) (pow-succ' 256 k), ap (λ x. n % x) (pow-succ' 256 k), mod-mul n {m = 256} {c = 256 ^ k} (omega arith) (pow256 k))

-- a number that k bytes hold is what its k bytes write
pub number_bytes : (k n : ℕ) → n < 256 ^ k → number_from_digits 256 (bytes k n) ≡ n
number_bytes k n h = after-bytes k 0 n ∙ omega (arith, mod-eq_of_lt h)

zeroed : (b : ℕ) → 0 * 256 + b ≡ b
zeroed b = omega arith

after_is : (m : ℕ) (bs : List ℕ) → number_from_digits_after 256 m bs ≡ m * 256 ^ length bs + number_from_digits 256 bs
after_is m [] = omega arith
after_is m (b ∷ bs) =
    after_is (m * 256 + b) bs
    ∙ omega (arith, add-mul (m * 256) b (256 ^ length bs), mul_assoc m 256 (256 ^ length bs), ap (λ x. m * x) (pow-succ' 256 (length bs)), after_is (0 * 256 + b) bs, ap (λ x. x * 256 ^ length bs) (zeroed b))

bytes_after : (m : ℕ) (bs : List ℕ) → AllBelowBase 256 bs → bytes (length bs) (number_from_digits_after 256 m bs) ≡ bs
bytes_after m [] p = refl
bytes_after m (b ∷ bs) p =
    ap₂ (λ x xs. x ∷ xs)
    (ap (λ x. x / 256 ^ length bs % 256) (after_is (m * 256 + b) bs)
    ∙ ap (λ x. x % 256) (digits_div (m * 256 + b) (number_lt 256 bs p.1))
    ∙ digits_mod m p.0)
    (bytes_after (m * 256 + b) bs p.1)

-- the bytes of the number that bytes write are those bytes
pub bytes_number : (k : ℕ) (bs : List ℕ) → length bs ≡ k → AllBelowBase 256 bs → bytes k (number_from_digits 256 bs) ≡ bs
bytes_number k bs e p = ap (λ n. bytes n (number_from_digits 256 bs)) (sym e) ∙ bytes_after 0 bs p

pub under_take : (n : ℕ) (m : List ℕ) → AllBelowBase 256 m → AllBelowBase 256 (take n m)
under_take zero m p = tt
under_take (suc n) [] p = tt
under_take (suc n) (x ∷ xs) p = (p.0, under_take n xs p.1)

pub under_drop : (n : ℕ) (m : List ℕ) → AllBelowBase 256 m → AllBelowBase 256 (drop n m)
under_drop zero m p = p
under_drop (suc n) [] p = tt
under_drop (suc n) (x ∷ xs) p = under_drop n xs p.1

pub under_append : (a b : List ℕ) → AllBelowBase 256 a → AllBelowBase 256 b → AllBelowBase 256 (a ++ b)
under_append [] b p q = q
under_append (x ∷ a) b p q = (p.0, under_append a b p.1 q)

pub under_slice_index : (xs : List ℕ) (k : ℕ) → AllBelowBase 256 xs → get_or xs k 0 < 256
under_slice_index [] k p = omega arith
under_slice_index (x ∷ xs) zero p = p.0
under_slice_index (x ∷ xs) (suc k) p = under_slice_index xs k p.1

pub under_pick : (xs ks : List ℕ) → AllBelowBase 256 xs → AllBelowBase 256 (pick_l 0 xs ks)
under_pick xs [] p = tt
under_pick xs (k ∷ ks) p = (under_slice_index xs k p, under_pick xs ks p)

-- sums of bytes, place by place
pub under_add : (xs ys : List ℕ) → AllBelowBase 256 xs → AllBelowBase 256 ys → AllBelowBase 256 (zip2 bit_xor xs ys)
under_add [] ys p q = tt
under_add (x ∷ xs) [] p q = tt
under_add (x ∷ xs) (y ∷ ys) p q = (xor_lt 8 x y p.0 q.0, under_add xs ys p.1 q.1)

pub under_zeros : (n : ℕ) → AllBelowBase 256 (replicate n 0)
under_zeros zero = tt
under_zeros (suc n) = (omega arith, under_zeros n)

pub fits_block : (m : List ℕ) → AllBelowBase 256 m → IsBlock (block m)
fits_block m p =
    lt_of_lt_of_le (number_lt 256 (take 16 m) (under_take 16 m p))
    (pow-le-pow_right {n = 256} (omega arith) {i = length (take 16 m)} {j = 16} (simp length-take (omega arith)))

pub fits_read : (m : List ℕ) → AllBelowBase 256 m → Blocks (read m)
fits_read m p = (fits_block m p, fits_block (drop 16 m) (under_drop 16 m p))

pub fits_reads : (n : ℕ) (m : List ℕ) → AllBelowBase 256 m → AllBlocks (reads n m)
fits_reads zero m p = tt
fits_reads (suc n) m p = (fits_read m p, fits_reads n (drop 32 m) (under_drop 32 m p))

pub read-write : (d : DiBlock) (rest : List ℕ) → Blocks d → read (write d ++ rest) ≡ d
read-write d rest p = ap₂ di (number_bytes 16 d.left p.0) (number_bytes 16 d.right p.1)

pub reads-writes : (ds : List DiBlock) (rest : List ℕ) → AllBlocks ds → reads (length ds) (writes ds ++ rest) ≡ ds
reads-writes [] rest p = refl
reads-writes (d ∷ ds) rest p = ap₂ (λ x xs. x ∷ xs) (read-write d (writes ds ++ rest) p.0) (reads-writes ds rest p.1)

pub length-writes : (ds : List DiBlock) → length (writes ds) ≡ 32 * length ds
length-writes [] = refl
length-writes (d ∷ ds) = let h = length-writes ds in omega arith

block-bytes : (m : List ℕ) → AllBelowBase 256 m → 16 ≤ length m → bytes 16 (block m) ≡ take 16 m
block-bytes m p h = bytes_number 16 (take 16 m) (length-take-le 16 m h) (under_take 16 m p)

take_sixteen : (m : List ℕ) → take 16 m ++ take 16 (drop 16 m) ≡ take 32 m
take_sixteen m = sym (take-add 16 16 m)

pub write_read : (m : List ℕ) → AllBelowBase 256 m → 32 ≤ length m → write (read m) ≡ take 32 m
write_read m p h =
    ap₂ (λ a b. a ++ b) (block-bytes m p (omega arith)) (block-bytes (drop 16 m) (under_drop 16 m p) (simp length-drop (omega arith)))
    ∙ take_sixteen m

more : (n : ℕ) → 32 * suc n ≡ 32 + 32 * n
more n = omega arith

pub writes_reads : (n : ℕ) (m : List ℕ) → AllBelowBase 256 m → 32 * n ≤ length m → writes (reads n m) ≡ take (32 * n) m
writes_reads zero m p h = refl
writes_reads (suc n) m p h =
    ap₂ (λ a b. a ++ b) (write_read m p (omega arith)) (writes_reads n (drop 32 m) (under_drop 32 m p) (simp length-drop (omega arith)))
    ∙ sym (ap (λ k. take k m) (more n) ∙ take-add 32 (32 * n) m)

pub under_write : (d : DiBlock) → AllBelowBase 256 (write d)
under_write d = under_append (bytes 16 d.left) (bytes 16 d.right) (under_bytes 16 d.left) (under_bytes 16 d.right)

pub under_writes : (ds : List DiBlock) → AllBelowBase 256 (writes ds)
under_writes [] = tt
under_writes (d ∷ ds) = under_append (write d) (writes ds) (under_write d) (under_writes ds)
