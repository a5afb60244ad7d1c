-- What the mode is for: each byte string of an admitted length is the enciphering of exactly one message of that
-- length, and deciphering gives that message.
use Rattle.std.specs.Prelude.{◌≡◌, ℕ, ◌≤◌, Bool, cond, ◌&&◌, List, length, nat_le}
use Rattle.std.specs.Int.Digits.{AllBelowBase}
use Rattle.cipher.specs.Tweaks.{tweaked}
use Rattle.mode.specs.Mode.{encipher, decipher}

-- 32 to 65,536 bytes
abbrev pub admitted : ℕ → Bool
admitted n = nat_le 32 n && nat_le n 65536

-- what the two calls leave of a message, from a cipher's two functions; one of another length is left as it is
unfoldable pub enciphered : (ℕ → ℕ → ℕ → ℕ) → List ℕ → List ℕ
enciphered enc m = cond (admitted (length m)) (encipher (tweaked enc) m) m

unfoldable pub deciphered : (ℕ → ℕ → ℕ → ℕ) → (ℕ → ℕ → ℕ → ℕ) → List ℕ → List ℕ
deciphered enc dec m = cond (admitted (length m)) (decipher (tweaked enc) (tweaked dec) m) m

-- bytes, of an admitted number
pub record Message (m : List ℕ) : Type 0 where
  pub bytes : AllBelowBase 256 m
  pub long : 32 ≤ length m
  pub short : length m ≤ 65536

-- exactly one message enciphers to `sealed`
pub record ExactlyOne (enc dec : ℕ → ℕ → ℕ → ℕ) (sealed : List ℕ) : Type 0 where
  -- there is one of the same length, the one that deciphering gives
  pub message : Message (deciphered enc dec sealed)
  pub length-kept : length (deciphered enc dec sealed) ≡ length sealed
  pub enciphers : enciphered enc (deciphered enc dec sealed) ≡ sealed
  -- and there is no other
  pub unique : (m : List ℕ) → Message m → enciphered enc m ≡ sealed → m ≡ deciphered enc dec sealed

abbrev pub Permutes : (enc dec : ℕ → ℕ → ℕ → ℕ) → Type 0
Permutes enc dec = (sealed : List ℕ) → Message sealed → ExactlyOne enc dec sealed
