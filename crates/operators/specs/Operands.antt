-- How operators read their operands, and what they refuse.
use Rattle.std.specs.Prelude.{ℕ, Bool, cond, length, ℤ, pos, negsuc, Some, None, Ok, Err, Option, Result, ok_or, nat_le}
use Rattle.std.specs.List.{slice_get}
use Rattle.objects.specs.Decimals.{fits}
use Rattle.objects.specs.declared.fault.Fault.{Fault}
use Rattle.objects.specs.declared.fault.Fault.TheVariants.{StackUnderflow, TypeCheck, RangeCheck, UndefinedResult}
use Rattle.objects.specs.declared.object.Object.{Object}
use Rattle.objects.specs.declared.object.Span.{Span}
use Rattle.objects.specs.declared.object.Value.{Value}
use Rattle.objects.specs.declared.object.Value.TheVariants.{Null, Integer, Boolean, Mark, Name, Operator, Array, String, Dictionary, Save, Header}
use Rattle.stacks.specs.Stacked.{Stacked}

-- a refusal ends what was to be done; otherwise it goes on with the value
abbrev pub then : {A B F : Type 0} → Result A F → (A → Result B F) → Result B F
then (Ok x) f = f x
then (Err e) f = Err e

-- at least n operands
abbrev pub at_least : ℕ → Stacked → Result (Unit {0}) Fault
at_least n s = cond (nat_le n (length s.objects)) (Ok tt) (Err StackUnderflow)

-- the n-th operand, read as one of a type
abbrev pub read_at : {A : Type 0} → (Object → Result A Fault) → ℕ → Stacked → Result A Fault
read_at read n s = then (ok_or (slice_get s.objects n) StackUnderflow) read

-- the top two operands read so: the lower one first
abbrev pub read_two : {A : Type 0} → (Object → Result A Fault) → Stacked → Result (A × A) Fault
read_two read s = then (at_least 2 s) (λ _. then (read_at read 1 s) (λ a. then (read_at read 0 s) (λ b. Ok (a, b))))

abbrev pub int_of : Value → Option ℤ
int_of Null = None
int_of (Integer z) = Some z
int_of (Boolean b) = None
int_of Mark = None
int_of (Name n) = None
int_of (Operator o) = None
int_of (Array a) = None
int_of (String a) = None
int_of (Dictionary d) = None
int_of (Save n) = None
int_of (Header h) = None

abbrev pub bool_of : Value → Option Bool
bool_of Null = None
bool_of (Integer z) = None
bool_of (Boolean b) = Some b
bool_of Mark = None
bool_of (Name n) = None
bool_of (Operator o) = None
bool_of (Array a) = None
bool_of (String a) = None
bool_of (Dictionary d) = None
bool_of (Save n) = None
bool_of (Header h) = None

abbrev pub array_of : Value → Option Span
array_of Null = None
array_of (Integer z) = None
array_of (Boolean b) = None
array_of Mark = None
array_of (Name n) = None
array_of (Operator o) = None
array_of (Array a) = Some a
array_of (String a) = None
array_of (Dictionary d) = None
array_of (Save n) = None
array_of (Header h) = None

abbrev pub string_of : Value → Option Span
string_of Null = None
string_of (Integer z) = None
string_of (Boolean b) = None
string_of Mark = None
string_of (Name n) = None
string_of (Operator o) = None
string_of (Array a) = None
string_of (String a) = Some a
string_of (Dictionary d) = None
string_of (Save n) = None
string_of (Header h) = None

abbrev pub dictionary_of : Value → Option ℕ
dictionary_of Null = None
dictionary_of (Integer z) = None
dictionary_of (Boolean b) = None
dictionary_of Mark = None
dictionary_of (Name n) = None
dictionary_of (Operator o) = None
dictionary_of (Array a) = None
dictionary_of (String a) = None
dictionary_of (Dictionary d) = Some d
dictionary_of (Save n) = None
dictionary_of (Header h) = None

abbrev pub of_type : {A : Type 0} → Option A → Result A Fault
of_type x = ok_or x TypeCheck

abbrev pub as_integer : Object → Result ℤ Fault
as_integer o = of_type (int_of o.value)

abbrev pub as_boolean : Object → Result Bool Fault
as_boolean o = of_type (bool_of o.value)

-- with either flag
abbrev pub as_array : Object → Result Span Fault
as_array o = of_type (array_of o.value)

abbrev pub as_string : Object → Result Span Fault
as_string o = of_type (string_of o.value)

-- a procedure is an executable array
abbrev pub as_procedure : Object → Result Span Fault
as_procedure o = cond o.executable (as_array o) (Err TypeCheck)

abbrev pub as_dictionary : Object → Result ℕ Fault
as_dictionary o = of_type (dictionary_of o.value)

-- the n-th operand, of any type
abbrev pub operand_at : ℕ → Stacked → Result Object Fault
operand_at = read_at Ok

-- the n-th operand as an integer
abbrev pub integer_at : ℕ → Stacked → Result ℤ Fault
integer_at = read_at as_integer

-- a count or an index is not negative
abbrev pub natural : ℤ → Result ℕ Fault
natural (pos n) = Ok n
natural (negsuc n) = Err RangeCheck

abbrev pub natural_at : ℕ → Stacked → Result ℕ Fault
natural_at n s = then (integer_at n s) natural

-- the top two operands as integers: the lower one first
abbrev pub two_integers : Stacked → Result (ℤ × ℤ) Fault
two_integers = read_two as_integer

-- the n-th operand as a boolean
abbrev pub boolean_at : ℕ → Stacked → Result Bool Fault
boolean_at = read_at as_boolean

-- the top two operands as booleans: the lower one first
abbrev pub two_booleans : Stacked → Result (Bool × Bool) Fault
two_booleans = read_two as_boolean

abbrev pub procedure_at : ℕ → Stacked → Result Span Fault
procedure_at = read_at as_procedure

abbrev pub dictionary_at : ℕ → Stacked → Result ℕ Fault
dictionary_at = read_at as_dictionary

-- a result has to be an integer of 32 bits
abbrev pub in_range : ℤ → Result ℤ Fault
in_range z = cond (fits z) (Ok z) (Err UndefinedResult)
