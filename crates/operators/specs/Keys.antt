-- Objects as keys: a string becomes a name, and so joins the names.
use Rattle.std.specs.Prelude.{ℕ, List, Some, None, Ok, Option, Result}
use Rattle.std.specs.List.{slice_get}
use Rattle.objects.specs.declared.fault.Fault.{Fault}
use Rattle.objects.specs.declared.object.Object.{Object}
use Rattle.objects.specs.declared.object.Span.{Span}
use Rattle.memory.specs.Keys as plain
use Rattle.memory.specs.Memories.{InUse}
use Rattle.memory.specs.declared.key.Key.{Key}
use Rattle.memory.specs.declared.key.Key.TheVariants.{Name}
use Rattle.stacks.specs.Stacked.{Stacked}
use Rattle.operators.specs.Operands.{then, of_type, operand_at, string_of}
use Rattle.operators.specs.States.{State}
use Rattle.operators.specs.Texts.{number_of_string, names_with_string, string_joined}

abbrev string_key : Option Span → Object → InUse → List (List ℕ) → Result Key Fault
string_key (Some a) o m names = then (number_of_string a m names) (λ n. Ok (Name n))
string_key None o m names = of_type (plain.key_of o.value)

abbrev pub names_if : Option Span → InUse → List (List ℕ) → List (List ℕ)
names_if (Some a) m names = names_with_string a m names
names_if None m names = names

-- the key that an object is, among names, and the names when it has joined them
abbrev pub key_with : Object → InUse → List (List ℕ) → Result Key Fault
key_with o m names = string_key (string_of o.value) o m names

abbrev pub names_with_object : Object → InUse → List (List ℕ) → List (List ℕ)
names_with_object o m names = names_if (string_of o.value) m names

-- the n-th operand as a key, among names, and the names when it has joined them
abbrev pub key_among : ℕ → Stacked → InUse → List (List ℕ) → Result Key Fault
key_among n operands m names = then (operand_at n operands) (λ o. key_with o m names)

abbrev pub names_if_there : Option Object → InUse → List (List ℕ) → List (List ℕ)
names_if_there (Some o) m names = names_with_object o m names
names_if_there None m names = names

abbrev pub names_with_key : ℕ → Stacked → InUse → List (List ℕ) → List (List ℕ)
names_with_key n operands m names = names_if_there (slice_get operands.objects n) m names

-- the key that an object is
abbrev pub key_of : Object → State → Result Key Fault
key_of o s = key_with o s.memory s.names

abbrev pub joined_if : Option Span → State → State
joined_if (Some a) s = string_joined a s
joined_if None s = s

-- what is left when the key is known: a string has joined the names
abbrev pub object_joined : Object → State → State
object_joined o s = joined_if (string_of o.value) s

-- the n-th operand as a key
abbrev pub key_at : ℕ → State → Result Key Fault
key_at n s = key_among n s.operands s.memory s.names

abbrev pub joined_if_there : Option Object → State → State
joined_if_there (Some o) s = object_joined o s
joined_if_there None s = s

-- what is left when the n-th operand has joined the names
abbrev pub key_joined : ℕ → State → State
key_joined n s = joined_if_there (slice_get s.operands.objects n) s
