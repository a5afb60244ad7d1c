use Rattle.std.proofs.Common.{arith, rules}
use Rattle.calls.proofs.Placing.{same_only}
use Rattle.store.proofs.store.Store.clear.Goals as goal

pub returns : goal.returns
returns g c =
    let geo = c.args.self.now.geometry in
    let m = c.args.memory.now in
    record {
      does = search rules;
      forgot = λ x x' alike cleared.
          same_only geo.slots geo.page c.args.slot m c.write_empty.new.memory x x' _ (omega (arith, geo.ok.2)) (search rules) cleared.0 alike c.write_empty.ensures cleared.2;
    }
