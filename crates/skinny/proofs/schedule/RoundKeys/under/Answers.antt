-- By hand: where a clause here is false, the search for a proof takes minutes.
use Rattle.std.proofs.Common.{ap}
use Rattle.skinny.specs.Skinny.{add}
use Rattle.skinny.proofs.schedule.RoundKeys.under.Goals as goal

pub returns : goal.returns
returns c =
    record {
      even = ap (add c.args.self.even) c.upper_rows.ensures;
      odd = ap (add c.args.self.odd) c.lower_rows.ensures;
      head = c.after_two.ensures.head;
      body = c.after_two.ensures.body;
    }
