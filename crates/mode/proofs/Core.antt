-- Steps 2 to 6 and their reverse undo each other, and so do both on the parts of a message. Each pair is one schema,
-- a layer, a mix with sums, a mask, a layer and a close with sums, and is shown once.
use Rattle.std.proofs.Common.{◌≡◌, ℕ, zero, suc, ◌+◌, ◌-◌, ◌/◌, List, [], ◌∷◌, ◌++◌, length, replicate, ap, ◌∙◌, ap₂, arith}
use Prim.Native.String.{String}
use lib.Bits.{bit_xor}
use Rattle.std.specs.Int.Digits.{AllBelowBase}
use Rattle.block.specs.declared.diblock.DiBlock.{DiBlock}
use Rattle.block.specs.Blocks.{IsBlock, di, add, write}
use Rattle.block.proofs.Sums.{cancel, cancel_two, add-add, Blocks, AllBlocks, Fit, fits_xor, fits_add}
use Rattle.block.proofs.Powers.{fits_Σα}
use Rattle.block.proofs.OnBytes.{fits_read, under_append, under_zeros, under_write}
use Rattle.mode.specs.Parts.{Parts, parts, onto, padded}
use Rattle.mode.specs.Mode.{each, lefts, rights, both, xstar, ystar, hash, hash_of_tail, top, crossed, xsums, mix, chain, mask, bottom, ysums, close, core, encipher_parts, untop, unmix, unbottom, unclose, uncore, decipher_parts}
use Rattle.mode.specs.Running.{sandwich, wrap}
use Rattle.mode.proofs.Layers.{onto-onto, length-onto, under_onto, each-length, each_fits, each_back, map_fits}
use Rattle.mode.proofs.Partition.{Good}

-- E and D take a domain's name, an index, a body and a block
pub record Inverse (E D : String → ℕ → ℕ → ℕ → ℕ) : Type 0 where
  pub fits_E : (d : String) (i b x : ℕ) → IsBlock b → IsBlock x → IsBlock (E d i b x)
  pub fits_D : (d : String) (i b x : ℕ) → IsBlock b → IsBlock x → IsBlock (D d i b x)
  pub undo : (d : String) (i b x : ℕ) → IsBlock b → IsBlock x → D d i b (E d i b x) ≡ x
  pub redo : (d : String) (i b x : ℕ) → IsBlock b → IsBlock x → E d i b (D d i b x) ≡ x

-- a layer with its inverse, one way
pub record Undoes (f g : ℕ → DiBlock → DiBlock) : Type 0 where
  pub fits : (i : ℕ) (d : DiBlock) → Blocks d → Blocks (f i d)
  back : (i : ℕ) (d : DiBlock) → Blocks d → g i (f i d) ≡ d

module _ (A A' M M' C C' B B' : ℕ → DiBlock → DiBlock) (K : DiBlock → ℕ → DiBlock → DiBlock) (s t : ℕ → List DiBlock → DiBlock)
    (hA : Undoes A A') (hM : Undoes M M') (hC : Undoes C C') (hB : Undoes B B')
    (hK : (st : DiBlock) → Blocks st → Undoes (K st) (K st))
    (hs : (n : ℕ) (ds : List DiBlock) → AllBlocks ds → Blocks (s n ds)) where
  sandwich_fits : (t-fits : (n : ℕ) (ds : List DiBlock) → AllBlocks ds → Blocks (t n ds)) (ds : List DiBlock) (l : DiBlock) → AllBlocks ds → Blocks l
      → AllBlocks (sandwich A M K C B s t ds l).0 × Blocks (sandwich A M K C B s t ds l).1
  sandwich_fits t-fits ds l p q =
      let n : ℕ = suc (length ds) in
      let xs : List DiBlock = each A 1 ds in
      let okx : AllBlocks xs = each_fits A hA.fits 1 ds p in
      let u : DiBlock = add l (s n xs) in
      let st : DiBlock = M n u in
      let okst : Blocks st = hM.fits n u (fits_add l (s n xs) q (hs n xs okx)) in
      let ys : List DiBlock = each (K st) 1 xs in
      let oky : AllBlocks ys = each_fits (K st) (hK st okst).fits 1 xs okx in
      (each_fits B hB.fits 1 ys oky, fits_add (C n st) (t n ys) (hC.fits n st okst) (t-fits n ys oky))

  back_at : (ds : List DiBlock) (l : DiBlock) → AllBlocks ds → Blocks l
      → (let c = sandwich A M K C B s t ds l in sandwich B' C' K M' A' t s c.0 c.1) ≡ (ds, l)
  back_at ds l p q =
      let n : ℕ = suc (length ds) in
      let xs : List DiBlock = each A 1 ds in
      let okx : AllBlocks xs = each_fits A hA.fits 1 ds p in
      let u : DiBlock = add l (s n xs) in
      let oku : Blocks u = fits_add l (s n xs) q (hs n xs okx) in
      let st : DiBlock = M n u in
      let okst : Blocks st = hM.fits n u oku in
      let ys : List DiBlock = each (K st) 1 xs in
      let oky : AllBlocks ys = each_fits (K st) (hK st okst).fits 1 xs okx in
      let len : suc (length (each B 1 ys)) ≡ n = ap suc (each-length B 1 ys ∙ each-length (K st) 1 xs ∙ each-length A 1 ds) in
      let ysback : each B' 1 (each B 1 ys) ≡ ys = each_back B B' hB.back 1 ys oky in
      let last : DiBlock = add (C n st) (t n ys) in
      let from-st : ℕ → DiBlock → List DiBlock → List DiBlock × DiBlock = λ n st ys. (each A' 1 (each (K st) 1 ys), add (M' n st) (s n (each (K st) 1 ys))) in
      let from-xs : List DiBlock → DiBlock → List DiBlock × DiBlock = λ xs u. (each A' 1 xs, add u (s n xs)) in
      let stback : C' n (add last (t n ys)) ≡ st = ap (C' n) (add-add (C n st) (t n ys)) ∙ hC.back n st okst in
      ap₂ (λ n zs. from-st n (C' n (add last (t n zs))) zs) len ysback
      ∙ ap (λ v. from-st n v ys) stback
      ∙ ap₂ from-xs (each_back (K st) (K st) (hK st okst).back 1 xs okx) (hM.back n u oku)
      ∙ ap₂ {C = List DiBlock × DiBlock} (λ a b. (a, b)) (each_back A A' hA.back 1 ds p) (add-add l (s n xs))

-- the sums of blocks, and a padded tail, are blocks
fits_both : (ds : List DiBlock) → AllBlocks ds → Fit (both ds)
fits_both = map_fits (λ d. bit_xor d.left d.right) (λ d p. fits_xor d.left d.right p.0 p.1)

pub fits_xstar : (ds : List DiBlock) → AllBlocks ds → Blocks (xstar ds)
fits_xstar ds p = (fits_Σα 1 (lefts ds) (map_fits (λ d. d.left) (λ d q. q.0) ds p), fits_Σα 2 (both ds) (fits_both ds p))

pub fits_ystar : (ds : List DiBlock) → AllBlocks ds → Blocks (ystar ds)
fits_ystar ds p = (fits_Σα 2 (both ds) (fits_both ds p), fits_Σα 1 (rights ds) (map_fits (λ d. d.right) (λ d q. q.1) ds p))

pub fits_padded : (t : List ℕ) → AllBelowBase 256 t → Blocks (padded t)
fits_padded t p = fits_read (t ++ (0x80 ∷ replicate (31 - length t) 0)) (under_append t _ p (omega arith, under_zeros (31 - length t)))

module _ {E D : String → ℕ → ℕ → ℕ → ℕ} (laws : Inverse E D) where
  fits_crossed : (l r : String) (n : ℕ) (d : DiBlock) → Blocks d → Blocks (crossed E l r n d)
  fits_crossed l r n d p = (laws.fits_E l n d.right d.left p.1 p.0, laws.fits_E r n d.left d.right p.0 p.1)

  pub fits_xsums : (n : ℕ) (ds : List DiBlock) → AllBlocks ds → Blocks (xsums E n ds)
  fits_xsums n ds p = fits_crossed "xL" "xR" n _ (fits_xstar ds p)

  fits_ysums : (n : ℕ) (ds : List DiBlock) → AllBlocks ds → Blocks (ysums E n ds)
  fits_ysums n ds p = fits_crossed "yL" "yR" n _ (fits_ystar ds p)

  pub fits_chain : (s j : ℕ) → IsBlock s → IsBlock (chain E s j)
  fits_chain s zero p = p
  fits_chain s (suc j) p = laws.fits_E "s" 0 _ _ (omega arith) (fits_chain s j p)

  pub the_mask : (st : DiBlock) → Blocks st → Undoes (mask E st) (mask E st)
  the_mask st p =
      record {
        fits = λ k d q.
            let s = chain E st.left ((k + 127) / 128) in
            let oks : IsBlock s = fits_chain st.left ((k + 127) / 128) p.0 in
            let z = E "c" k st.right s in
            let okz : IsBlock z = laws.fits_E "c" k st.right s p.1 oks in
            (fits_xor d.left z q.0 okz, fits_xor (bit_xor d.right z) s (fits_xor d.right z q.1 okz) oks);
        back = λ k d q. ap₂ di (cancel d.left _) (cancel_two d.right _ _);
      }

-- the layers of one block each, with F and G for E and D or for D and E
module _ (F G : String → ℕ → ℕ → ℕ → ℕ)
    (fits-F : (d : String) (i b x : ℕ) → IsBlock b → IsBlock x → IsBlock (F d i b x))
    (back : (d : String) (i b x : ℕ) → IsBlock b → IsBlock x → G d i b (F d i b x) ≡ x) where
  pub on_left : Undoes (top F) (top G)
  on_left =
      record {
        fits = λ i d p. (fits-F "t" i d.right d.left p.1 p.0, p.1);
        back = λ i d p. ap (λ x. di x d.right) (back "t" i d.right d.left p.1 p.0);
      }

  on_right : Undoes (bottom F) (bottom G)
  on_right =
      record {
        fits = λ i d p. (p.0, fits-F "b" i d.left d.right p.0 p.1);
        back = λ i d p. ap (di d.left) (back "b" i d.left d.right p.0 p.1);
      }

abbrev pub forth : (String → ℕ → ℕ → ℕ → ℕ) → String → String → ℕ → DiBlock → DiBlock
forth F a b n d = let s = F a n d.right d.left in di s (F b n s d.right)

abbrev gone : (String → ℕ → ℕ → ℕ → ℕ) → String → String → ℕ → DiBlock → DiBlock
gone F a b n d = let r = F b n d.left d.right in di (F a n r d.left) r

module _ (F G : String → ℕ → ℕ → ℕ → ℕ)
    (fits-F : (d : String) (i b x : ℕ) → IsBlock b → IsBlock x → IsBlock (F d i b x))
    (back : (d : String) (i b x : ℕ) → IsBlock b → IsBlock x → G d i b (F d i b x) ≡ x) (a b : String) where
  pub forth-gone : Undoes (forth F a b) (gone G a b)
  forth-gone =
      record {
        fits = λ n d p.
            let ok : IsBlock (F a n d.right d.left) = fits-F a n d.right d.left p.1 p.0 in
            (ok, fits-F b n _ d.right ok p.1);
        back = λ n d p.
            let s = F a n d.right d.left in
            let ok : IsBlock s = fits-F a n d.right d.left p.1 p.0 in
            ap (λ r. di (G a n r s) r) (back b n s d.right ok p.1) ∙ ap (λ l. di l d.right) (back a n d.right d.left p.1 p.0);
      }

  gone-forth : Undoes (gone F a b) (forth G a b)
  gone-forth =
      record {
        fits = λ n d p.
            let ok : IsBlock (F b n d.left d.right) = fits-F b n d.left d.right p.0 p.1 in
            (fits-F a n _ d.left ok p.0, ok);
        back = λ n d p.
            let r = F b n d.left d.right in
            let ok : IsBlock r = fits-F b n d.left d.right p.0 p.1 in
            ap (λ l. di l (G b n l r)) (back a n r d.left ok p.0) ∙ ap (di d.left) (back b n d.left d.right p.0 p.1);
      }

module _ {E D : String → ℕ → ℕ → ℕ → ℕ} (laws : Inverse E D) where
  pub core_back : (ds : List DiBlock) (l : DiBlock) → AllBlocks ds → Blocks l → uncore E D (core E ds l).0 (core E ds l).1 ≡ (ds, l)
  core_back ds l p q =
      back_at (top E) (untop E D) (mix E) (unmix E D) (close E) (unclose E D) (bottom E) (unbottom E D) (mask E) (xsums E) (ysums E)
      (on_left E D laws.fits_E laws.undo) (forth-gone E D laws.fits_E laws.undo "ts" "ss")
      (forth-gone E D laws.fits_E laws.undo "cs" "bs") (on_right E D laws.fits_E laws.undo) (the_mask laws) (fits_xsums laws)
      ds l p q

  pub core_forth : (ds : List DiBlock) (l : DiBlock) → AllBlocks ds → Blocks l → core E (uncore E D ds l).0 (uncore E D ds l).1 ≡ (ds, l)
  core_forth ds l p q =
      back_at (unbottom E D) (bottom E) (unclose E D) (close E) (unmix E D) (mix E) (untop E D) (top E) (mask E) (ysums E) (xsums E)
      (on_right D E laws.fits_D laws.redo) (gone-forth D E laws.fits_D laws.redo "cs" "bs")
      (gone-forth D E laws.fits_D laws.redo "ts" "ss") (on_left D E laws.fits_D laws.redo) (the_mask laws) (fits_ysums laws)
      ds l p q

  pub core_fits : (ds : List DiBlock) (l : DiBlock) → AllBlocks ds → Blocks l → AllBlocks (core E ds l).0 × Blocks (core E ds l).1
  core_fits =
      sandwich_fits (top E) (untop E D) (mix E) (unmix E D) (close E) (unclose E D) (bottom E) (unbottom E D) (mask E) (xsums E) (ysums E)
      (on_left E D laws.fits_E laws.undo) (forth-gone E D laws.fits_E laws.undo "ts" "ss")
      (forth-gone E D laws.fits_E laws.undo "cs" "bs") (on_right E D laws.fits_E laws.undo) (the_mask laws) (fits_xsums laws)
      (fits_ysums laws)

  uncore_fits : (ds : List DiBlock) (l : DiBlock) → AllBlocks ds → Blocks l → AllBlocks (uncore E D ds l).0 × Blocks (uncore E D ds l).1
  uncore_fits =
      sandwich_fits (unbottom E D) (bottom E) (unclose E D) (close E) (unmix E D) (mix E) (untop E D) (top E) (mask E) (ysums E) (xsums E)
      (on_right D E laws.fits_D laws.redo) (gone-forth D E laws.fits_D laws.redo "cs" "bs")
      (gone-forth D E laws.fits_D laws.redo "ts" "ss") (on_left D E laws.fits_D laws.redo) (the_mask laws) (fits_ysums laws)
      (fits_xsums laws)

  pub fits_tail_hash : (i : ℕ) (t : List ℕ) → AllBelowBase 256 t → Blocks (hash_of_tail E i t)
  fits_tail_hash i [] p = (omega arith, omega arith)
  fits_tail_hash i (b ∷ bs) p =
      let q : Blocks (padded (b ∷ bs)) = fits_padded (b ∷ bs) p in
      (laws.fits_E "p" i _ _ q.1 q.0, laws.fits_E "p" (i + 1) _ _ q.1 q.0)

module _ (f g : List DiBlock → DiBlock → List DiBlock × DiBlock) (a b : List ℕ → DiBlock) (mid : DiBlock → DiBlock → List ℕ)
    (fits : (t : List ℕ) → AllBelowBase 256 t → Blocks (a t))
    (back : (ds : List DiBlock) (l : DiBlock) → AllBlocks ds → Blocks l → g (f ds l).0 (f ds l).1 ≡ (ds, l)) where
  wrap_good : ((t : List ℕ) → AllBelowBase 256 t → Blocks (b t)) → ((x y : DiBlock) → AllBelowBase 256 (mid x y))
      → ((ds : List DiBlock) (l : DiBlock) → AllBlocks ds → Blocks l → AllBlocks (f ds l).0 × Blocks (f ds l).1)
      → (p : Parts) → Good p → Good (wrap f a b mid p)
  wrap_good fits-b fits-mid fits-f p h =
      let l : DiBlock = add p.last (a p.tail) in
      let okl : Blocks l = fits_add p.last (a p.tail) h.last (fits p.tail h.tail) in
      let c : List DiBlock × DiBlock = f p.front l in
      let okc : AllBlocks c.0 × Blocks c.1 = fits-f p.front l h.front okl in
      let t : List ℕ = onto p.tail (mid l c.1) in
      let okt : AllBelowBase 256 t = under_onto p.tail (mid l c.1) h.tail (fits-mid l c.1) in
      record {
        front = okc.0;
        last = fits_add c.1 (b t) okc.1 (fits-b t okt);
        tail = okt;
        short = rw length-onto h.short;
      }

  wrap_back : (p : Parts) → Good p → wrap g b a (λ x y. mid y x) (wrap f a b mid p) ≡ p
  wrap_back p h =
      let l : DiBlock = add p.last (a p.tail) in
      let okl : Blocks l = fits_add p.last (a p.tail) h.last (fits p.tail h.tail) in
      let c : List DiBlock × DiBlock = f p.front l in
      let t : List ℕ = onto p.tail (mid l c.1) in
      let from : DiBlock → List DiBlock × DiBlock → Parts = λ l' c'. (let t' = onto t (mid c'.1 l') in parts c'.0 (add c'.1 (a t')) t') in
      ap (λ l'. from l' (g c.0 l')) (add-add c.1 (b t))
      ∙ ap (from c.1) (back p.front l h.front okl)
      ∙ ap (λ t'. parts p.front (add l (a t')) t') (onto-onto p.tail (mid l c.1))
      ∙ ap (λ x. parts p.front x p.tail) (add-add p.last (a p.tail))

module _ {E D : String → ℕ → ℕ → ℕ → ℕ} (laws : Inverse E D) where
  pub parts_back : (p : Parts) → Good p → decipher_parts E D (encipher_parts E p) ≡ p
  parts_back = wrap_back (core E) (uncore E D) (hash_of_tail E 0) (hash_of_tail E 4) (λ x y. write (hash E 2 (add x y))) (fits_tail_hash laws 0) (core_back laws)

  pub parts-forth : (p : Parts) → Good p → encipher_parts E (decipher_parts E D p) ≡ p
  parts-forth = wrap_back (uncore E D) (core E) (hash_of_tail E 4) (hash_of_tail E 0) (λ x y. write (hash E 2 (add y x))) (fits_tail_hash laws 4) (core_forth laws)

  pub encipher_good : (p : Parts) → Good p → Good (encipher_parts E p)
  encipher_good = wrap_good (core E) (uncore E D) (hash_of_tail E 0) (hash_of_tail E 4) (λ x y. write (hash E 2 (add x y))) (fits_tail_hash laws 0) (core_back laws)
      (fits_tail_hash laws 4) (λ x y. under_write (hash E 2 (add x y))) (core_fits laws)

  pub decipher_good : (p : Parts) → Good p → Good (decipher_parts E D p)
  decipher_good = wrap_good (uncore E D) (core E) (hash_of_tail E 4) (hash_of_tail E 0) (λ x y. write (hash E 2 (add y x))) (fits_tail_hash laws 4) (core_forth laws)
      (fits_tail_hash laws 0) (λ x y. under_write (hash E 2 (add y x))) (uncore_fits laws)

module _ (E D : String → ℕ → ℕ → ℕ → ℕ) where
  pub uncore_length : (ds : List DiBlock) (l : DiBlock) → length (uncore E D ds l).0 ≡ length ds
  uncore_length ds l = each-length (untop E D) 1 _ ∙ each-length (mask E _) 1 _ ∙ each-length (unbottom E D) 1 ds

pub core_length : (E : String → ℕ → ℕ → ℕ → ℕ) (ds : List DiBlock) (l : DiBlock) → length (core E ds l).0 ≡ length ds
core_length E ds l = each-length (bottom E) 1 _ ∙ each-length (mask E _) 1 _ ∙ each-length (top E) 1 ds
