use Rattle.std.proofs.Common.{◌≡◌, ◌+◌, ◌*◌, length, get_or, sym, refl, ap, ◌∙◌, arith}
use Rattle.text.proofs.Hexes.{length-hex, hex_none, hex_digit, digit_read, unhexing_more}
use Rattle.text.proofs.hexadecimal.bytes_of.Goals as goal
use Rattle.text.proofs.hexadecimal.bytes_of.Goals.{then-text-out-via-then-text-out, then-text-out-via-else-text-out+then-not-are_digits}

pub returns-then-text-out-clause-reads : goal.returns-then-text-out-clause-reads
returns-then-text-out-clause-reads c = λ bs len all e.
    let l : length c.args.text.now ≡ 2 * length bs = ap length e ∙ length-hex bs in
    elim c.then-text-out.branch [
      | then-text-out-via-then-text-out w ↦ w.if-text-out.true (omega arith)
      | then-text-out-via-else-text-out+then-not-are_digits w ↦
          let digits = w.are_digits.ensures.1 (λ k h. rw e (hex_digit bs k (rw (sym e) h) all)) in absurd cc
    ]

pub loop-i-init : goal.loop-i-init
loop-i-init c = (tt, sym hex_none)

pub unwrap-high-requires : goal.unwrap-high-requires
unwrap-high-requires c =
    digit_read (get_or c.args.text.now (2 * c.loop-i.i) 0) c.nibble.result (c.if-not-are_digits.ensures.0 refl (2 * c.loop-i.i) (omega arith)) c.nibble.ensures

pub unwrap-low-requires : goal.unwrap-low-requires
unwrap-low-requires c = digit_read (get_or c.args.text.now (2 * c.loop-i.i + 1) 0) c.nibble-in-loop-i.result (c.if-not-are_digits.ensures.0 refl (2 * c.loop-i.i + 1) (omega arith)) c.nibble-in-loop-i.ensures

pub loop-i-preserved : goal.loop-i-preserved
loop-i-preserved c =
    let h = rw c.unwrap-high.ensures at c.nibble.ensures in
    let k = rw c.unwrap-low.ensures at c.nibble-in-loop-i.ensures in
    unhexing_more c.args.text.now c.loop-i.out c.loop-i.i c.unwrap-high.result c.unwrap-low.result (omega arith) (omega arith)
    h.0 k.0 h.1 k.1 c.loop-i.invariant
