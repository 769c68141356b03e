-- length.
use Rattle.std.specs.Prelude.{ℕ, List, [], length, pos, Ok, Err, Result}
use Rattle.std.specs.Prelude.{unwrap_or}
use Rattle.std.specs.List.{slice_get}
use Rattle.objects.specs.Objects.{integer}
use Rattle.objects.specs.declared.fault.Fault.{Fault}
use Rattle.objects.specs.declared.fault.Fault.TheVariants.{TypeCheck}
use Rattle.objects.specs.declared.object.Value.{Value}
use Rattle.objects.specs.declared.object.Value.TheVariants.{Null, Integer, Boolean, Mark, Name, Operator, Array, String, Dictionary, Save, Header}
use Rattle.memory.specs.Dictionaries.{header_in}
use Rattle.stacks.specs.Stacked.{replaced}
use Rattle.operators.specs.Operands.{then, operand_at}
use Rattle.operators.specs.States.{State, with_operands}

-- a number that no name has counts as an empty name
abbrev pub name_length : ℕ → List (List ℕ) → ℕ
name_length number names = length (unwrap_or (slice_get names number) [])

-- elements, bytes, entries
abbrev pub length_of : State → Value → Result ℕ Fault
length_of s Null = Err TypeCheck
length_of s (Integer z) = Err TypeCheck
length_of s (Boolean b) = Err TypeCheck
length_of s Mark = Err TypeCheck
length_of s (Name n) = Ok (name_length n s.names)
length_of s (Operator o) = Err TypeCheck
length_of s (Array a) = Ok a.len
length_of s (String a) = Ok a.len
length_of s (Dictionary d) = Ok (header_in s.memory d).count
length_of s (Save n) = Err TypeCheck
length_of s (Header h) = Err TypeCheck

-- the top gives way to its length
abbrev pub measured : State → Result State Fault
measured s = then (operand_at 0 s.operands) (λ o. then (length_of s o.value) (λ n. Ok (with_operands (replaced 1 (integer (pos n)) s.operands) s)))
