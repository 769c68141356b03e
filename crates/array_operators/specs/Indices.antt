-- How the operators on arrays and strings read their operands.
use Rattle.std.specs.Prelude.{ℕ, ◌+◌, cond, ℤ, Ok, Err, Result, nat_lt}
use Rattle.objects.specs.declared.fault.Fault.{Fault}
use Rattle.objects.specs.declared.fault.Fault.TheVariants.{RangeCheck}
use Rattle.objects.specs.declared.object.Span.{Span}
use Rattle.stacks.specs.Stacked.{Stacked}
use Rattle.operators.specs.Operands.{then, natural, integer_at}

abbrev pub place_below : Span → ℕ → Result ℕ Fault
place_below a i = cond (nat_lt i a.len) (Ok (a.start + i)) (Err RangeCheck)

-- where the element with an index lies: below the length
abbrev pub place_in : Span → ℤ → Result ℕ Fault
place_in a z = then (natural z) (place_below a)

-- where the element lies of which the n-th operand is the index
abbrev pub place_at : ℕ → Span → Stacked → Result ℕ Fault
place_at n a s = then (integer_at n s) (place_in a)

abbrev pub byte_below : ℕ → Result ℕ Fault
byte_below n = cond (nat_lt n 256) (Ok n) (Err RangeCheck)

-- 0 to 255
abbrev pub byte_value : ℤ → Result ℕ Fault
byte_value z = then (natural z) byte_below
