-- Each operator has a number and a name of its own.
use Rattle.std.proofs.Common.{◌≡◌, ℕ, ◌-◌, get_or, Some, sym, refl, ap, ◌∙◌}
use Rattle.objects.specs.Operators.{number, name, operators, operator_named}
use Rattle.objects.specs.declared.operator.Operator.{Operator}
use Rattle.objects.specs.declared.operator.Operator.TheVariants.{Pop}

abbrev numbered : ℕ → Operator
numbered n = get_or operators (n - 1) Pop

numbered_number : (o : Operator) → numbered (number o) ≡ o
numbered_number Pop = refl
numbered_number o = refl

pub same_from_number : (a b : Operator) → number a ≡ number b → a ≡ b
same_from_number a b e = sym (numbered_number a) ∙ ap numbered e ∙ numbered_number b

pub named_name : (o : Operator) → operator_named (name o) ≡ Some o
named_name Pop = refl
named_name o = refl
