use Rattle.std.proofs.Common.{Ok, rules}
use Rattle.memory.proofs.Making.{made}
use Rattle.memory.proofs.memory.Memory.make_dictionary.Goals as goal

pub returns-clause-empty : goal.returns-clause-empty
returns-clause-empty g c = made _ _ _ (Ok _) (search rules) (search rules)
