use Rattle.std.proofs.Common.{rules, ◌≡◌, Some, None, sym, ap, ◌∙◌}
use Rattle.std.specs.List.{slice_get}
use Rattle.std.specs.Option.{option_copied}
use Rattle.names.proofs.Tables.{no_item, item, no_name, the_name, name_within}
use Rattle.names.proofs.table.NameTable.text_of.Goals as goal

pub returns-in_err-entry-clause-name : goal.returns-in_err-entry-clause-name
returns-in_err-entry-clause-name c =
    let none : slice_get c.self.inside.entries.items c.args.number ≡ None = no_item _ _ _ _ _ c.deref.ensures.0 c.from.ensures c.get.ensures.lookup c.in_err-entry.was in
    ap option_copied c.from_residual.ensures ∙ sym (no_name _ _ _ _ _ c.self.invariant c.self.view_is c.args.number none)

pub name-requires : goal.name-requires
name-requires c =
    let some : slice_get c.self.inside.entries.items c.args.number ≡ Some c.in_ok-entry.entry.now = item _ _ _ _ _ c.deref.ensures.0 c.from.ensures c.in_ok-entry.entry c.get.ensures.lookup c.in_ok-entry.was in
    name_within _ _ _ _ _ c.self.invariant c.self.view_is c.args.number _ some (search rules)

pub returns-clause-name : goal.returns-clause-name
returns-clause-name c =
    let some : slice_get c.self.inside.entries.items c.args.number ≡ Some c.in_ok-entry.entry.now = item _ _ _ _ _ c.deref.ensures.0 c.from.ensures c.in_ok-entry.entry c.get.ensures.lookup c.in_ok-entry.was in
    ap Some c.name.ensures ∙ sym (the_name _ _ _ _ _ c.self.invariant c.self.view_is c.args.number _ some)
