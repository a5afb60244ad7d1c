-- Enciphering and deciphering undo each other on every message, and so exactly one message enciphers to each.
use Rattle.std.proofs.Common.{◌≡◌, ℕ, ◌+◌, ◌*◌, ◌<◌, ◌≤◌, true, false, leb, ◌⊎◌, List, length, sym, ap, ◌∙◌, ap₂, ⊎_elim, arith}
use Rattle.std.specs.Int.Digits.{AllBelowBase}
use Rattle.std.proofs.lemmas.Bool.{le-leb, lt-leb, and_from, and_left, and_right, cond-true, cond-false}
use Rattle.block.specs.declared.diblock.DiBlock.{DiBlock}
use Rattle.block.specs.Blocks.{IsBlock, add, write}
use Rattle.block.proofs.Sums.{Blocks, add-comm}
use Rattle.cipher.specs.Tweaks.{head_of, tweaked}
use Rattle.mode.specs.Parts.{Parts, parts, split, join, onto}
use Rattle.mode.specs.Mode.{top, unbottom, hash, hash_of_tail, uncore, encipher_parts, decipher_parts, encipher, decipher}
use Rattle.mode.specs.Running.{wrap}
use Rattle.mode.specs.Permutes.{admitted, enciphered, deciphered, Message, Permutes}
use Rattle.mode.proofs.Layers.{length-onto}
use Rattle.mode.proofs.Partition.{Good, split_good, join-split, split-join, length-join, under_join}
use Rattle.mode.proofs.Core.{Inverse, parts_back, parts-forth, encipher_good, decipher_good, core_length, uncore_length}

-- a function on parts, undone by another, is undone on messages too
module _ (f g : Parts → Parts) (good : (p : Parts) → Good p → Good (f p)) (back : (p : Parts) → Good p → g (f p) ≡ p) where
  there_and_back : (m : List ℕ) → Message m → join (g (split (join (f (split m))))) ≡ m
  there_and_back m h =
      let p = split_good m h.bytes in
      ap (λ x. join (g x)) (split-join (f (split m)) (good (split m) p))
      ∙ ap join (back (split m) p)
      ∙ join-split m h.bytes h.long

-- parts of the same sizes make a message of the same length
join-length : (m : List ℕ) (p : Parts) → Message m → length p.front ≡ length (split m).front → length p.tail ≡ length (split m).tail → length (join p) ≡ length m
join-length m p h e f =
    length-join p
    ∙ ap₂ (λ n k. 32 * n + (32 + k)) e f
    ∙ sym (length-join (split m))
    ∙ ap length (join-split m h.bytes h.long)

like : (m x : List ℕ) → Message m → AllBelowBase 256 x → length x ≡ length m → Message x
like m x h u e = record { bytes = u; long = rw e h.long; short = rw e h.short }

pub admits : (n : ℕ) → 32 ≤ n → n ≤ 65536 → admitted n ≡ true
admits n p q = and_from (leb 32 n) (leb n 65536) (le-leb 32 n p) (le-leb n 65536 q)

pub admits_none : (n : ℕ) → (n < 32) ⊎ ((32 ≤ n) × (65536 < n)) → admitted n ≡ false
admits_none n = ⊎_elim (λ h. and_left (leb 32 n) (leb n 65536) (lt-leb 32 n h)) (λ h. and_right (leb 32 n) (leb n 65536) (lt-leb n 65536 h.1))

-- the two functions of a cipher, with its laws
pub record Lawful (f g : ℕ → ℕ → ℕ → ℕ) : Type 0 where
  pub encfits : (h b x : ℕ) → IsBlock h → IsBlock b → IsBlock x → IsBlock (f h b x)
  pub decfits : (h b x : ℕ) → IsBlock h → IsBlock b → IsBlock x → IsBlock (g h b x)
  pub decenc : (h b x : ℕ) → IsBlock h → IsBlock b → IsBlock x → g h b (f h b x) ≡ x
  pub encdec : (h b x : ℕ) → IsBlock h → IsBlock b → IsBlock x → f h b (g h b x) ≡ x

pub head_fits : (d i : ℕ) → IsBlock (head_of d i)
head_fits d i = omega arith

module _ (f g : ℕ → ℕ → ℕ → ℕ) (laws : Lawful f g) where
  pub inverse : Inverse (tweaked f) (tweaked g)
  inverse =
      record {
        fits_E = λ d i b x p q. laws.encfits _ b x (head_fits _ i) p q;
        fits_D = λ d i b x p q. laws.decfits _ b x (head_fits _ i) p q;
        undo = λ d i b x p q. laws.decenc _ b x (head_fits _ i) p q;
        redo = λ d i b x p q. laws.encdec _ b x (head_fits _ i) p q;
      }

  -- on messages
  pub is_enciphered : (m : List ℕ) → Message m → enciphered f m ≡ encipher (tweaked f) m
  unfolding enciphered
  is_enciphered m h = cond-true (admitted (length m)) (encipher (tweaked f) m) m (admits (length m) h.long h.short)

  pub is_deciphered : (m : List ℕ) → Message m → deciphered f g m ≡ decipher (tweaked f) (tweaked g) m
  unfolding deciphered
  is_deciphered m h = cond-true (admitted (length m)) (decipher (tweaked f) (tweaked g) m) m (admits (length m) h.long h.short)

  -- and on what is not admitted
  pub not_enciphered : (m : List ℕ) → admitted (length m) ≡ false → enciphered f m ≡ m
  unfolding enciphered
  not_enciphered m e = cond-false (admitted (length m)) (encipher (tweaked f) m) m e

  pub not_deciphered : (m : List ℕ) → admitted (length m) ≡ false → deciphered f g m ≡ m
  unfolding deciphered
  not_deciphered m e = cond-false (admitted (length m)) (decipher (tweaked f) (tweaked g) m) m e

  enciphered-length : (m : List ℕ) → Message m → length (encipher (tweaked f) m) ≡ length m
  enciphered-length m h = join-length m (encipher_parts (tweaked f) (split m)) h (core_length (tweaked f) _ _) (length-onto _ _)

  deciphered-length : (m : List ℕ) → Message m → length (decipher (tweaked f) (tweaked g) m) ≡ length m
  deciphered-length m h = join-length m (decipher_parts (tweaked f) (tweaked g) (split m)) h (uncore_length (tweaked f) (tweaked g) _ _) (length-onto _ _)

  enciphered_message : (m : List ℕ) → Message m → Message (encipher (tweaked f) m)
  enciphered_message m h = like m _ h (under_join (encipher_parts (tweaked f) (split m)) (encipher_good inverse (split m) (split_good m h.bytes))) (enciphered-length m h)

  deciphered_message : (m : List ℕ) → Message m → Message (decipher (tweaked f) (tweaked g) m)
  deciphered_message m h = like m _ h (under_join (decipher_parts (tweaked f) (tweaked g) (split m)) (decipher_good inverse (split m) (split_good m h.bytes))) (deciphered-length m h)

  pub enciphered_back : (m : List ℕ) → Message m → deciphered f g (enciphered f m) ≡ m
  enciphered_back m h =
      ap (deciphered f g) (is_enciphered m h) ∙ is_deciphered _ (enciphered_message m h)
      ∙ there_and_back (encipher_parts (tweaked f)) (decipher_parts (tweaked f) (tweaked g)) (encipher_good inverse) (parts_back inverse) m h

  pub deciphered_back : (m : List ℕ) → Message m → enciphered f (deciphered f g m) ≡ m
  deciphered_back m h =
      ap (enciphered f) (is_deciphered m h) ∙ is_enciphered _ (deciphered_message m h)
      ∙ there_and_back (decipher_parts (tweaked f) (tweaked g)) (encipher_parts (tweaked f)) (decipher_good inverse) (parts-forth inverse) m h

  pub permutes : Permutes f g
  permutes sealed h =
      record {
        message = rw (is_deciphered sealed h) (deciphered_message sealed h);
        length-kept = ap length (is_deciphered sealed h) ∙ deciphered-length sealed h;
        enciphers = deciphered_back sealed h;
        unique = λ m p e. sym (enciphered_back m p) ∙ ap (deciphered f g) e;
      }

-- the first layer of each way makes blocks of blocks
pub top_fits : (f g : ℕ → ℕ → ℕ → ℕ) → Lawful f g → (i : ℕ) (d : DiBlock) → Blocks d → Blocks (top (tweaked f) i d)
top_fits f g laws i d p = ((inverse f g laws).fits_E "t" i d.right d.left p.1 p.0, p.1)

pub unbottom_fits : (f g : ℕ → ℕ → ℕ → ℕ) → Lawful f g → (i : ℕ) (d : DiBlock) → Blocks d → Blocks (unbottom (tweaked f) (tweaked g) i d)
unbottom_fits f g laws i d p = (p.0, (inverse f g laws).fits_D "b" i d.left d.right p.0 p.1)

-- a tail's mask does not mind the order of the two di-blocks
pub decipher_is : (f g : ℕ → ℕ → ℕ → ℕ) (m : List ℕ) → decipher (tweaked f) (tweaked g) m
    ≡ join (wrap (uncore (tweaked f) (tweaked g)) (hash_of_tail (tweaked f) 4) (hash_of_tail (tweaked f) 0) (λ a b. write (hash (tweaked f) 2 (add a b))) (split m))
decipher_is f g m =
    let p : Parts = split m in
    let l : DiBlock = add p.last (hash_of_tail (tweaked f) 4 p.tail) in
    let c : List DiBlock × DiBlock = uncore (tweaked f) (tweaked g) p.front l in
    ap (λ x. (let t = onto p.tail (write (hash (tweaked f) 2 x)) in join (parts c.0 (add c.1 (hash_of_tail (tweaked f) 0 t)) t))) (add-comm c.1 l)
