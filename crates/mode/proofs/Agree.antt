-- Two ciphers whose encryptions agree on blocks encipher every message alike.
use Rattle.std.proofs.Common.{◌≡◌, ℕ, zero, suc, ◌+◌, ◌/◌, ◌%◌, ◌^◌, cond, List, [], ◌∷◌, length, refl, ap, ◌∙◌, ap₂, arith}
use Prim.Native.String.{String}
use lib.Bits.{bit_xor}
use Rattle.std.specs.Int.Digits.{AllBelowBase}
use Rattle.block.specs.declared.diblock.DiBlock.{DiBlock}
use Rattle.block.specs.Blocks.{IsBlock, di, add, write}
use Rattle.block.proofs.Sums.{Blocks, AllBlocks, fits_add}
use Rattle.block.proofs.OnBytes.{under_write}
use Rattle.mode.specs.Parts.{Parts, parts, split, join, onto, padded}
use Rattle.mode.specs.Mode.{each, xstar, ystar, hash, hash_of_tail, top, crossed, xsums, ysums, mix, chain, masked, mask, bottom, close, core, encipher_parts}
use Rattle.mode.specs.Permutes.{admitted, enciphered, Message}
use Rattle.mode.proofs.Layers.{each_fits, under_onto}
use Rattle.mode.proofs.Partition.{Good, split_good}
use Rattle.mode.proofs.Core.{Inverse, forth, on_left, forth-gone, the_mask, fits_xstar, fits_ystar, fits_xsums, fits_chain, fits_padded, fits_tail_hash, core_fits}
use Rattle.mode.proofs.Whole.{Lawful, head_fits, inverse}

each_agree : (f g : ℕ → DiBlock → DiBlock) → ((i : ℕ) (d : DiBlock) → Blocks d → f i d ≡ g i d) → (i : ℕ) (ds : List DiBlock) → AllBlocks ds → each f i ds ≡ each g i ds
each_agree f g h i [] p = refl
each_agree f g h i (d ∷ ds) p = ap₂ (λ x xs. x ∷ xs) (h i d p.0) (each_agree f g h (suc i) ds p.1)

-- step by step, for E, of which the intermediate values are blocks, and E'
module _ {E D E' : String → ℕ → ℕ → ℕ → ℕ} (laws : Inverse E D)
    (same : (d : String) (i b x : ℕ) → IsBlock b → IsBlock x → E d i b x ≡ E' d i b x) where
  hash_agree : (i : ℕ) (d : DiBlock) → Blocks d → hash E i d ≡ hash E' i d
  hash_agree i d p = ap₂ di (same "p" i d.right d.left p.1 p.0) (same "p" (i + 1) d.right d.left p.1 p.0)

  tail_agree : (i : ℕ) (t : List ℕ) → AllBelowBase 256 t → hash_of_tail E i t ≡ hash_of_tail E' i t
  tail_agree i [] p = refl
  tail_agree i (b ∷ bs) p = hash_agree i (padded (b ∷ bs)) (fits_padded (b ∷ bs) p)

  top_agree : (i : ℕ) (d : DiBlock) → Blocks d → top E i d ≡ top E' i d
  top_agree i d p = ap (λ x. di x d.right) (same "t" i d.right d.left p.1 p.0)

  bottom_agree : (k : ℕ) (d : DiBlock) → Blocks d → bottom E k d ≡ bottom E' k d
  bottom_agree k d p = ap (di d.left) (same "b" k d.left d.right p.0 p.1)

  crossed_agree : (l r : String) (n : ℕ) (d : DiBlock) → Blocks d → crossed E l r n d ≡ crossed E' l r n d
  crossed_agree l r n d p = ap₂ di (same l n d.right d.left p.1 p.0) (same r n d.left d.right p.0 p.1)

  -- `mix` and `close`
  forth_agree : (a b : String) (n : ℕ) (d : DiBlock) → Blocks d → forth E a b n d ≡ forth E' a b n d
  forth_agree a b n d p =
      let s = E a n d.right d.left in
      let ok : IsBlock s = laws.fits_E a n d.right d.left p.1 p.0 in
      ap (di s) (same b n s d.right ok p.1) ∙ ap (λ x. di x (E' b n x d.right)) (same a n d.right d.left p.1 p.0)

  chain_agree : (s j : ℕ) → IsBlock s → chain E s j ≡ chain E' s j
  chain_agree s zero p = refl
  chain_agree s (suc j) p = same "s" 0 (suc j % 2 ^ 128) (chain E s j) (omega arith) (fits_chain laws s j p) ∙ ap (E' "s" 0 (suc j % 2 ^ 128)) (chain_agree s j p)

  mask_agree : (st : DiBlock) → Blocks st → (k : ℕ) (d : DiBlock) → Blocks d → mask E st k d ≡ mask E' st k d
  mask_agree st p k d q =
      let j = (k + 127) / 128 in
      let s = chain E st.left j in
      ap (λ z. di (bit_xor d.left z) (bit_xor (bit_xor d.right z) s)) (same "c" k st.right s p.1 (fits_chain laws st.left j p.0))
      ∙ ap (λ x. masked E' st.right x k d) (chain_agree st.left j p.0)

  -- from the last step back to the first
  core_agree : (ds : List DiBlock) (l : DiBlock) → AllBlocks ds → Blocks l → core E ds l ≡ core E' ds l
  core_agree ds l p q =
      let n : ℕ = suc (length ds) in
      let xs : List DiBlock = each (top E) 1 ds in
      let okx : AllBlocks xs = each_fits (top E) (on_left E D laws.fits_E laws.undo).fits 1 ds p in
      let u : DiBlock = add l (xsums E n xs) in
      let oku : Blocks u = fits_add l (xsums E n xs) q (fits_xsums laws n xs okx) in
      let st : DiBlock = mix E n u in
      let okst : Blocks st = (forth-gone E D laws.fits_E laws.undo "ts" "ss").fits n u oku in
      let ys : List DiBlock = each (mask E st) 1 xs in
      let oky : AllBlocks ys = each_fits (mask E st) (the_mask laws st okst).fits 1 xs okx in
      let from-ys : DiBlock → List DiBlock → List DiBlock × DiBlock = λ st ys. (each (bottom E') 1 ys, add (close E' n st) (ysums E' n ys)) in
      let from-st : List DiBlock → DiBlock → List DiBlock × DiBlock = λ xs st. from-ys st (each (mask E' st) 1 xs) in
      ap₂ {C = List DiBlock × DiBlock} (λ a b. (a, b)) (each_agree (bottom E) (bottom E') bottom_agree 1 ys oky)
      (ap₂ add (forth_agree "cs" "bs" n st okst) (crossed_agree "yL" "yR" n (ystar ys) (fits_ystar ys oky)))
      ∙ ap (from-ys st) (each_agree (mask E st) (mask E' st) (mask_agree st okst) 1 xs okx)
      ∙ ap (from-st xs) (forth_agree "ts" "ss" n u oku ∙ ap (λ s. mix E' n (add l s)) (crossed_agree "xL" "xR" n (xstar xs) (fits_xstar xs okx)))
      ∙ ap (λ xs. from-st xs (mix E' n (add l (xsums E' n xs)))) (each_agree (top E) (top E') top_agree 1 ds p)

  parts_agree : (p : Parts) → Good p → encipher_parts E p ≡ encipher_parts E' p
  parts_agree p h =
      let l : DiBlock = add p.last (hash_of_tail E 0 p.tail) in
      let okl : Blocks l = fits_add p.last (hash_of_tail E 0 p.tail) h.last (fits_tail_hash laws 0 p.tail h.tail) in
      let c : List DiBlock × DiBlock = core E p.front l in
      let okc : Blocks c.1 = (core_fits laws p.front l h.front okl).1 in
      let w : DiBlock = hash E 2 (add l c.1) in
      let t : List ℕ = onto p.tail (write w) in
      let okt : AllBelowBase 256 t = under_onto p.tail (write w) h.tail (under_write w) in
      let from-w : List DiBlock × DiBlock → DiBlock → Parts = λ c w. (let t = onto p.tail (write w) in parts c.0 (add c.1 (hash_of_tail E' 4 t)) t) in
      let from-c : DiBlock → List DiBlock × DiBlock → Parts = λ l c. from-w c (hash E' 2 (add l c.1)) in
      ap (λ x. parts c.0 (add c.1 x) t) (tail_agree 4 t okt)
      ∙ ap (from-w c) (hash_agree 2 (add l c.1) (fits_add l c.1 okl okc))
      ∙ ap (from-c l) (core_agree p.front l h.front okl)
      ∙ ap (λ x. (let l = add p.last x in from-c l (core E' p.front l))) (tail_agree 0 p.tail h.tail)

pub enciphered_agree : (f g f' : ℕ → ℕ → ℕ → ℕ) → Lawful f g
    → ((h b x : ℕ) → IsBlock h → IsBlock b → IsBlock x → f h b x ≡ f' h b x)
    → (m : List ℕ) → Message m → enciphered f m ≡ enciphered f' m
unfolding enciphered
enciphered_agree f g f' laws same m h =
    ap (λ p. cond (admitted (length m)) (join p) m)
    (parts_agree (inverse f g laws) (λ d i b x p q. same _ b x (head_fits _ i) p q) (split m) (split_good m h.bytes))
