-- add sub mul idiv mod neg abs.
use Rattle.std.specs.Prelude.{cond, ℤ, pos, ◌+ℤ◌, ◌-ℤ◌, ◌*ℤ◌, neg_ℤ, Ok, Err, Result, ◌==◌, int_div, int_rem, unsigned_abs}
use Rattle.objects.specs.Objects.{integer}
use Rattle.objects.specs.declared.fault.Fault.{Fault}
use Rattle.objects.specs.declared.fault.Fault.TheVariants.{UndefinedResult}
use Rattle.stacks.specs.Stacked.{Stacked, replaced}
use Rattle.operators.specs.Operands.{then, integer_at, two_integers, in_range}

-- two integers for their result
abbrev pub binary : (ℤ → ℤ → Result ℤ Fault) → Stacked → Result Stacked Fault
binary f s = then (two_integers s) (λ p. then (f p.0 p.1) (λ z. Ok (replaced 2 (integer z) s)))

-- one integer for its result
abbrev pub unary : (ℤ → Result ℤ Fault) → Stacked → Result Stacked Fault
unary f s = then (integer_at 0 s) (λ a. then (f a) (λ z. Ok (replaced 1 (integer z) s)))

-- a divisor of 0 has no quotient and no remainder
abbrev pub unless_zero : ℤ → Result ℤ Fault → Result ℤ Fault
unless_zero b r = cond (unsigned_abs b == 0) (Err UndefinedResult) r

abbrev pub sum : ℤ → ℤ → Result ℤ Fault
sum a b = in_range (a +ℤ b)

abbrev pub difference : ℤ → ℤ → Result ℤ Fault
difference a b = in_range (a -ℤ b)

abbrev pub product : ℤ → ℤ → Result ℤ Fault
product a b = in_range (a *ℤ b)

-- truncated toward zero
abbrev pub quotient : ℤ → ℤ → Result ℤ Fault
quotient a b = unless_zero b (in_range (int_div a b))

-- with the sign of the dividend
abbrev pub remainder : ℤ → ℤ → Result ℤ Fault
remainder a b = unless_zero b (Ok (int_rem a b))

abbrev pub opposite : ℤ → Result ℤ Fault
opposite a = in_range (neg_ℤ a)

abbrev pub magnitude : ℤ → Result ℤ Fault
magnitude a = in_range (pos (unsigned_abs a))
