use Rattle.std.proofs.Common.{rules}
use Rattle.names.proofs.Lasting.{join_lasts, join_apart}
use Rattle.names.proofs.table.NameTable.join.Goals as goal

pub returns-in-Some-clause-lasts : goal.returns-in-Some-clause-lasts
returns-in-Some-clause-lasts c = join_lasts c.args.text.now c.args.self.now _ _ (search rules) (search rules)

pub returns-in-None-clause-lasts : goal.returns-in-None-clause-lasts
returns-in-None-clause-lasts c = join_lasts c.args.text.now c.args.self.now _ _ (search rules) (search rules)

pub returns-in-None-clause-apart : goal.returns-in-None-clause-apart
returns-in-None-clause-apart c = join_apart c.args.text.now c.args.self.now c.join_new.new.self c.join_new.result (search rules) (search rules) (search rules)
