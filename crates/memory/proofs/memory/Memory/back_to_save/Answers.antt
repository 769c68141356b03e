use Rattle.std.proofs.Common.{Ok, rules}
use Rattle.memory.proofs.Restoring.{going_back}
use Rattle.memory.proofs.memory.Memory.back_to_save.Goals as goal

pub returns-in_err-place-clause-returned : goal.returns-in_err-place-clause-returned
returns-in_err-place-clause-returned g c = going_back _ _ _ c.from_residual.result (search rules) (search rules)

pub returns-in_err-back_to-clause-returned : goal.returns-in_err-back_to-clause-returned
returns-in_err-back_to-clause-returned g c = going_back _ _ _ c.from_residual-in_err-back_to.result (search rules) (search rules)

pub returns-clause-returned : goal.returns-clause-returned
returns-clause-returned g c = going_back _ _ _ (Ok _) (search rules) (search rules)
