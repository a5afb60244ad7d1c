use Rattle.aes.specs.Aes.{on_columns}
use Rattle.aes.specs.Words.{state}
use Rattle.aes.proofs.OnWords.{state_is}
use Rattle.aes.proofs.schedule.inv_mix_columns.Goals as goal

pub returns : goal.returns
unfolding state on_columns
returns c = state_is _ _ _ _ c.inv_mix.ensures c.inv_mix-2.ensures c.inv_mix-3.ensures c.inv_mix-4.ensures
