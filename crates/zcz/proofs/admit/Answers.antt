use Rattle.std.proofs.Common.{◌≡◌, true, ◌&&◌, leb, length, rules}
use Rattle.std.proofs.lemmas.Bool.{and_parts, leb-true}
use Rattle.zcz.proofs.admit.Goals as goal

pub returns : goal.returns
returns c =
    let n = length c.args.message.now in
    let within : (leb 32 n && leb n 65536) ≡ true = search rules in
    let both = and_parts (leb 32 n) (leb n 65536) within in
    record { bytes = c.all_bytes.ensures; long = leb-true 32 n both.0; short = leb-true n 65536 both.1 }
