-- The output as a list of bytes, oldest first.
use Rattle.std.specs.Prelude.{ℕ, ◌+◌, cond, List, ◌++◌, length, take, drop, Ok, Err, Result, nat_le}
use Rattle.objects.specs.declared.fault.Fault.{Fault}
use Rattle.objects.specs.declared.fault.Fault.TheVariants.{IoError}

-- at most 4,096 bytes wait
abbrev pub appended : List ℕ → List ℕ → Result (List ℕ) Fault
appended text out = cond (nat_le (length out + length text) 4096) (Ok (out ++ text)) (Err IoError)

-- what a buffer holds that as many of the oldest bytes as fit are moved to: the rest of it is as it was
abbrev pub moved : List ℕ → List ℕ → List ℕ
moved out buffer = take (length buffer) out ++ drop (length out) buffer

-- what is left of the output then
abbrev pub left : List ℕ → List ℕ → List ℕ
left out buffer = drop (length buffer) out
