use Rattle.aes.proofs.OnField.{is_inverse}
use Rattle.aes.proofs.Inverse.{inverses}
use Rattle.aes.proofs.Computed.{examples}
use Rattle.aes.proofs.Aes.new.Goals as goal

pub returns-clause-inverses : goal.returns-clause-inverses
returns-clause-inverses c = inverses

pub returns-clause-field : goal.returns-clause-field
returns-clause-field c = is_inverse

pub returns-clause-examples : goal.returns-clause-examples
returns-clause-examples c = examples
