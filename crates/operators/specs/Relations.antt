-- gt ge lt le on integers; and or xor not on booleans; true false null.
use Rattle.std.specs.Prelude.{Bool, true, false, not, ◌&&◌, ◌||◌, ℤ, Ok, Result, int_lt}
use Rattle.objects.specs.declared.fault.Fault.{Fault}
use Rattle.objects.specs.declared.object.Object.{Object}
use Rattle.objects.specs.Objects.{truth}
use Rattle.stacks.specs.Stacked.{Stacked, replaced}
use Rattle.operators.specs.Operands.{then, read_two, as_integer, as_boolean, boolean_at}

-- two operands of one type, read so, for whether they stand so
abbrev pub told : {A : Type 0} → (Object → Result A Fault) → (A → A → Bool) → Stacked → Result Stacked Fault
told read f s = then (read_two read s) (λ p. Ok (replaced 2 (truth (f p.0 p.1)) s))

-- two integers for whether they stand so
abbrev pub compared : (ℤ → ℤ → Bool) → Stacked → Result Stacked Fault
compared = told as_integer

abbrev pub above : ℤ → ℤ → Bool
above a b = int_lt b a

abbrev pub at_least_as : ℤ → ℤ → Bool
at_least_as a b = not (int_lt a b)

abbrev pub below : ℤ → ℤ → Bool
below a b = int_lt a b

abbrev pub at_most_as : ℤ → ℤ → Bool
at_most_as a b = not (int_lt b a)

-- two booleans for one
abbrev pub joined : (Bool → Bool → Bool) → Stacked → Result Stacked Fault
joined = told as_boolean

abbrev pub both : Bool → Bool → Bool
both a b = a && b

abbrev pub either : Bool → Bool → Bool
either a b = a || b

abbrev pub one_of : Bool → Bool → Bool
one_of true b = not b
one_of false b = b

abbrev pub turned_round : Stacked → Result Stacked Fault
turned_round s = then (boolean_at 0 s) (λ a. Ok (replaced 1 (truth (not a)) s))
