-- A place of a list, or a rangecheck past its end.
use Rattle.std.specs.Prelude.{ℕ, cond, List, length, Ok, Err, Result, nat_lt}
use Rattle.objects.specs.declared.fault.Fault.{Fault}
use Rattle.objects.specs.declared.fault.Fault.TheVariants.{RangeCheck}

abbrev pub within : {X : Type 0} → List X → ℕ → Result (Unit {0}) Fault
within xs at = cond (nat_lt at (length xs)) (Ok tt) (Err RangeCheck)
