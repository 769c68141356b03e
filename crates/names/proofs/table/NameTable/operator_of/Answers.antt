use Rattle.std.proofs.Common.{◌≡◌, Some, None, sym, ap, ◌∙◌}
use Rattle.std.specs.List.{slice_get}
use Rattle.std.specs.Option.{option_and_then}
use Rattle.objects.specs.Operators.{operator_named}
use Rattle.names.proofs.Tables.{no_item, item, no_name, operator_told}
use Rattle.names.proofs.table.NameTable.operator_of.Goals as goal

pub returns-in_err-get : goal.returns-in_err-get
returns-in_err-get c =
    let none : slice_get c.self.inside.entries.items c.args.number ≡ None = no_item _ _ _ _ _ c.deref.ensures.0 c.from.ensures c.get.ensures.lookup c.in_err-get.was in
    c.from_residual.ensures ∙ ap (option_and_then operator_named) (sym (no_name _ _ _ _ _ c.self.invariant c.self.view_is c.args.number none))

pub returns : goal.returns
returns c =
    let some : slice_get c.self.inside.entries.items c.args.number ≡ Some c.in_ok-get.field-0.now = item _ _ _ _ _ c.deref.ensures.0 c.from.ensures c.in_ok-get.field-0 c.get.ensures.lookup c.in_ok-get.was in
    operator_told _ _ _ _ _ c.self.invariant c.self.view_is c.args.number _ some
