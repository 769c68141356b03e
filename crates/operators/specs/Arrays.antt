-- n array, n string.
use Rattle.std.specs.Prelude.{ℕ, Ok, Result}
use Rattle.objects.specs.Objects.{literal}
use Rattle.objects.specs.declared.fault.Fault.{Fault}
use Rattle.objects.specs.declared.object.Object.{Object}
use Rattle.objects.specs.declared.object.Value.TheVariants.{Array, String}
use Rattle.memory.specs.Memories.{Part, slots, bytes, taken}
use Rattle.stacks.specs.Stacked.{replaced}
use Rattle.operators.specs.Operands.{then, natural_at}
use Rattle.operators.specs.States.{State, with_memory, with_operands}

abbrev pub array_object : ℕ → ℕ → Object
array_object start n = literal (Array (record { start = start; len = n }))

abbrev pub string_object : ℕ → ℕ → Object
string_object start n = literal (String (record { start = start; len = n }))

-- n cells of a part of memory, all empty: as an object they give way for n
abbrev pub made : {A : Type 0} → Part A → (ℕ → ℕ → Object) → State → Result State Fault
made p object s =
    then (natural_at 0 s.operands) (λ n. then (taken p n s.memory) (λ m.
    Ok (with_operands (replaced 1 (object (p.top s.memory) n) s.operands) (with_memory m s))))

-- an array of n nulls, for n
abbrev pub array_made : State → Result State Fault
array_made = made slots array_object

-- a string of n zero bytes, for n
abbrev pub string_made : State → Result State Fault
string_made = made bytes string_object
