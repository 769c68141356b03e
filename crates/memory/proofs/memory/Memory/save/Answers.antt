use Rattle.std.proofs.Common.{Ok, rules}
use Rattle.memory.proofs.Restoring.{saving}
use Rattle.memory.proofs.memory.Memory.save.Goals as goal

pub returns-clause-numbered : goal.returns-clause-numbered
returns-clause-numbered g c = saving _ _ (Ok _) (search rules) (search rules)
