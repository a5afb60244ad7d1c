use Rattle.std.proofs.Common.{◌≡◌, sym, ap, ◌∙◌, arith}
use Rattle.std.proofs.lemmas.List.{take_all}
use Rattle.block.specs.Blocks.{bytes}
use Rattle.block.proofs.OnBytes.{length-bytes, under_bytes, bytes_number}
use Rattle.text.specs.Texts.{hex}
use Rattle.command.proofs.parse.key.Goals as goal

pub returns-in_err-out : goal.returns-in_err-out
returns-in_err-out c = rw c.from_residual.ensures (λ x h e.
    c.in_err-out.ensures (bytes 16 x) (length-bytes 16 x, under_bytes 16 x) e)

pub returns : goal.returns
returns c =
    let out = c.in_ok-out.out in
    let read = c.in_ok-out.ensures in
    let all = take_all 16 out (omega arith) in
    let back : bytes 16 c.read_block.result ≡ out = ap (bytes 16) c.read_block.ensures ∙ rw all (bytes_number 16 out read.0.0 read.0.1) in
    (c.read_block.type_inv, read.1 ∙ ap hex (sym back))
