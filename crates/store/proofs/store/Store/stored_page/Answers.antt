use Rattle.calls.proofs.Placing.{part-page}
use Rattle.store.proofs.store.Store.stored_page.Goals as goal

pub returns : goal.returns
returns g c = (
  c.in_ok-check_memory.ensures,
  c.in_ok-check_slot.ensures,
  part-page c.args.self.now.geometry.page c.args.slot c.args.memory.now _ _ c.range.ensures.start c.range.ensures.end,
)
