use Rattle.std.proofs.Common.{rules}
use Rattle.memory.proofs.Defining.{defining}
use Rattle.memory.proofs.memory.Memory.define.Goals as goal

pub returns-in-Some-clause-entered : goal.returns-in-Some-clause-entered
returns-in-Some-clause-entered g c = defining _ _ _ _ _ _ (search rules) (search rules)

pub returns-in-None-clause-entered : goal.returns-in-None-clause-entered
returns-in-None-clause-entered g c = defining _ _ _ _ _ _ (search rules) (search rules)
