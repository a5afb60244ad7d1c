-- A list of n elements written out, and what 16 bytes write as one sum.
use Rattle.std.proofs.Common.{◌≡◌, ℕ, zero, suc, ◌+◌, ◌*◌, ◌^◌, List, [], ◌∷◌, length, get_or, drop, sym, ap, ◌∙◌, arith, drop-cons}
use Rattle.std.specs.Int.Digits.{number_from_digits}
use Rattle.std.proofs.lemmas.List.{drop_all}

-- n elements from place k on
abbrev pub spread : ℕ → ℕ → List ℕ → List ℕ
spread zero k xs = []
spread (suc n) k xs = get_or xs k 0 ∷ spread n (suc k) xs

spread_is : (n k : ℕ) (xs : List ℕ) → length xs ≡ k + n → spread n k xs ≡ drop k xs
spread_is zero k xs e = sym (drop_all k xs (omega arith))
spread_is (suc n) k xs e = ap (λ r. get_or xs k 0 ∷ r) (spread_is n (suc k) xs (omega arith)) ∙ sym (drop-cons xs k 0 (omega arith))

pub spread-all : (n : ℕ) (xs : List ℕ) → length xs ≡ n → spread n 0 xs ≡ xs
spread-all n xs e = spread_is n 0 xs (omega arith)

pub number_sixteen : (xs : List ℕ) → length xs ≡ 16
    → get_or xs 0 0 * 256 ^ 15 + get_or xs 1 0 * 256 ^ 14 + get_or xs 2 0 * 256 ^ 13 + get_or xs 3 0 * 256 ^ 12 + get_or xs 4 0 * 256 ^ 11
    + get_or xs 5 0 * 256 ^ 10 + get_or xs 6 0 * 256 ^ 9 + get_or xs 7 0 * 256 ^ 8 + get_or xs 8 0 * 256 ^ 7 + get_or xs 9 0 * 256 ^ 6
    + get_or xs 10 0 * 256 ^ 5 + get_or xs 11 0 * 256 ^ 4 + get_or xs 12 0 * 256 ^ 3 + get_or xs 13 0 * 256 ^ 2 + get_or xs 14 0 * 256 + get_or xs 15 0
    ≡ number_from_digits 256 xs
number_sixteen xs e = sum xs ∙ ap (number_from_digits 256) (spread-all 16 xs e)
  where
    sum : (xs : List ℕ)
        → get_or xs 0 0 * 256 ^ 15 + get_or xs 1 0 * 256 ^ 14 + get_or xs 2 0 * 256 ^ 13 + get_or xs 3 0 * 256 ^ 12 + get_or xs 4 0 * 256 ^ 11
        + get_or xs 5 0 * 256 ^ 10 + get_or xs 6 0 * 256 ^ 9 + get_or xs 7 0 * 256 ^ 8 + get_or xs 8 0 * 256 ^ 7 + get_or xs 9 0 * 256 ^ 6
        + get_or xs 10 0 * 256 ^ 5 + get_or xs 11 0 * 256 ^ 4 + get_or xs 12 0 * 256 ^ 3 + get_or xs 13 0 * 256 ^ 2 + get_or xs 14 0 * 256 + get_or xs 15 0
        ≡ number_from_digits 256 (spread 16 0 xs)
    sum xs = omega arith
