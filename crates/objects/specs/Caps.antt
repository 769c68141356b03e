-- A number that stops at the largest of 32 bits.
use Rattle.std.specs.Prelude.{ℕ, ◌-◌, ◌^◌, min, Some, None, Option}

abbrev pub capped : Option ℕ → Option ℕ
capped None = None
capped (Some n) = Some (min n (2 ^ 32 - 1))
