-- The bytes of a string, and the name that they become.
use Rattle.std.specs.Prelude.{ℕ, zero, suc, ◌+◌, cond, List, [], ◌∷◌, Err, Result, nat_le, slice_index}
use Rattle.objects.specs.declared.fault.Fault.{Fault}
use Rattle.objects.specs.declared.fault.Fault.TheVariants.{LimitCheck}
use Rattle.objects.specs.declared.object.Span.{Span}
use Rattle.memory.specs.Memories.{InUse}
use Rattle.names.specs.Names.{join_answer, names_joined}
use Rattle.operators.specs.States.{State, with_names}

abbrev pub byte_in : InUse → ℕ → ℕ
byte_in m i = slice_index m.kept.bytes i

-- n bytes from a place on
unfoldable pub bytes_from : ℕ → ℕ → InUse → List ℕ
bytes_from at zero m = []
bytes_from at (suc n) m = byte_in m at ∷ bytes_from (at + 1) n m

abbrev pub text_of : Span → InUse → List ℕ
text_of a m = bytes_from a.start a.len m

-- the number of the name with a string's bytes, among names: a name has at most 128
abbrev pub number_of_string : Span → InUse → List (List ℕ) → Result ℕ Fault
number_of_string a m names = cond (nat_le a.len 128) (join_answer (text_of a m) names) (Err LimitCheck)

-- the names when a string's bytes have joined them
abbrev pub names_with_string : Span → InUse → List (List ℕ) → List (List ℕ)
names_with_string a m names = cond (nat_le a.len 128) (names_joined (text_of a m) names) names

abbrev pub string_name : Span → State → Result ℕ Fault
string_name a s = number_of_string a s.memory s.names

-- what is left when a string's bytes have joined the names
abbrev pub string_joined : Span → State → State
string_joined a s = cond (nat_le a.len 128) (with_names (names_joined (text_of a s.memory) s.names) s) s
