use Rattle.std.proofs.Common.{sym, ◌∙◌}
use Rattle.names.proofs.Tables.{names_many}
use Rattle.names.proofs.table.NameTable.len.Goals as goal

pub returns-clause-value : goal.returns-clause-value
returns-clause-value c = c.len.ensures.value ∙ sym (names_many _ _ _ _ _ c.self.invariant c.self.view_is)
