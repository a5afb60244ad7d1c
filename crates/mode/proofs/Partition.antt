-- A message and its parts determine each other.
use Rattle.std.proofs.Common.{◌≡◌, ℕ, ◌+◌, ◌-◌, ◌*◌, ◌/◌, ◌<◌, ◌≤◌, List, ◌++◌, length, drop, sym, ap, ◌∙◌, ap₂, arith}
use Rattle.std.specs.Int.Digits.{AllBelowBase}
use Rattle.std.proofs.lemmas.List.{length-append, length-drop, drop_at, drop-drop, take-append-drop}
use Rattle.block.specs.declared.diblock.DiBlock.{DiBlock}
use Rattle.block.specs.Blocks.{read, write, reads, writes}
use Rattle.block.proofs.Sums.{Blocks, AllBlocks}
use Rattle.block.proofs.OnBytes.{fits_read, fits_reads, read-write, reads-writes, length-writes, write_read, writes_reads, under_drop, under_append, under_write, under_writes}
use Rattle.mode.specs.Parts.{Parts, parts, split, join}

-- parts whose numbers are blocks and bytes, with a tail of less than a di-block
pub record Good (p : Parts) : Type 0 where
  pub front : AllBlocks p.front
  pub last : Blocks p.last
  pub tail : AllBelowBase 256 p.tail
  pub short : length p.tail < 32

pub split_good : (m : List ℕ) → AllBelowBase 256 m → Good (split m)
split_good m p =
    let n = length m / 32 - 1 in
    record {
      front = fits_reads n m p;
      last = fits_read (drop (32 * n) m) (under_drop (32 * n) m p);
      tail = under_drop (32 * n + 32) m p;
      short = simp length-drop (omega arith);
    }

pub join-split : (m : List ℕ) → AllBelowBase 256 m → 32 ≤ length m → join (split m) ≡ m
join-split m p h =
    let n = length m / 32 - 1 in
    let rest = drop (32 * n) m in
    let long : 32 ≤ length rest = simp length-drop (omega arith) in
    ap₂ (λ a b. a ++ b) (writes_reads n m p (omega arith))
    (ap₂ (λ a b. a ++ b) (write_read rest (under_drop (32 * n) m p) long) (sym (drop-drop 32 (32 * n) m)) ∙ take-append-drop 32 rest)
    ∙ take-append-drop (32 * n) m

-- the parts, for any number of di-blocks before the last
abbrev pub split_by : ℕ → List ℕ → Parts
split_by n m = parts (reads n m) (read (drop (32 * n) m)) (drop (32 * n + 32) m)

pub length-join : (p : Parts) → length (join p) ≡ 32 * length p.front + (32 + length p.tail)
length-join p = simp length-append (let h = length-writes p.front in omega arith)

pub split-join : (p : Parts) → Good p → split (join p) ≡ p
split-join p g =
    let ds = p.front in
    let rest : List ℕ = write p.last ++ p.tail in
    let long = length-join p in
    let n : length (join p) / 32 - 1 ≡ length ds = let s = g.short in omega arith in
    let at : drop (32 * length ds) (join p) ≡ rest = drop_at (writes ds) rest (32 * length ds) (length-writes ds) in
    ap (λ k. split_by k (join p)) n
    ∙ ap₂ (λ f (lt : DiBlock × List ℕ). parts f lt.0 lt.1) (reads-writes ds rest g.front)
    (ap₂ {C = DiBlock × List ℕ} (λ a b. (a, b)) (ap read at ∙ read-write p.last p.tail g.last) (sym (drop-drop 32 (32 * length ds) (join p)) ∙ ap (drop 32) at))

pub under_join : (p : Parts) → Good p → AllBelowBase 256 (join p)
under_join p g =
    under_append (writes p.front) (write p.last ++ p.tail) (under_writes p.front)
    (under_append (write p.last) p.tail (under_write p.last) g.tail)
