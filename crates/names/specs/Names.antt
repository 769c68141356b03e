-- The name table as a list: the names in the order in which they joined, each a list of bytes.
use Rattle.std.specs.Prelude.{◌≡◌, ℕ, suc, ◌+◌, ◌<◌, Bool, cond, ◌&&◌, List, [], ◌∷◌, ◌++◌, length, Some, None, Ok, Err, Option, Result, nat_le, nat_lt, slice_index_or}
use Rattle.std.specs.List.{slice_get}
use Rattle.std.specs.Option.{option_map, option_and_then}
use Rattle.std.specs.Str.{bytes_eq}
use Rattle.objects.specs.declared.fault.Fault.{Fault}
use Rattle.objects.specs.declared.fault.Fault.TheVariants.{LimitCheck}
use Rattle.objects.specs.declared.operator.Operator.{Operator}
use Rattle.objects.specs.Operators.{operator_named}

-- the number of the first name that has these bytes
unfoldable pub place_of : List ℕ → List (List ℕ) → Option ℕ
place_of text [] = None
place_of text (name ∷ names) = cond (bytes_eq name text) (Some 0) (option_map suc (place_of text names))

-- how many bytes the names have in all
unfoldable pub bytes_in : List (List ℕ) → ℕ
bytes_in [] = 0
bytes_in (name ∷ names) = length name + bytes_in names

-- a new name has room: at most 1,024 names of at most 128 bytes, and 8,192 bytes in all
abbrev pub has_room : List ℕ → List (List ℕ) → Bool
has_room text names = nat_lt (length names) 1024 && (nat_le (length text) 128 && nat_le (bytes_in names + length text) 8192)

-- a new name's answer: the next number, or limitcheck if it has no room
abbrev pub new_answer : List ℕ → List (List ℕ) → Result ℕ Fault
new_answer text names = cond (has_room text names) (Ok (length names)) (Err LimitCheck)

-- what a new name leaves: it joins behind the others, if it has room
abbrev pub new_names : List ℕ → List (List ℕ) → List (List ℕ)
new_names text names = cond (has_room text names) (names ++ text ∷ []) names

-- what joining answers, by where the text was found
abbrev pub answer_by : Option ℕ → List ℕ → List (List ℕ) → Result ℕ Fault
answer_by (Some number) text names = Ok number
answer_by None text names = new_answer text names

abbrev pub join_answer : List ℕ → List (List ℕ) → Result ℕ Fault
join_answer text names = answer_by (place_of text names) text names

-- what joining leaves, by where the text was found: only an accepted new name changes the names
abbrev pub names_by : Option ℕ → List ℕ → List (List ℕ) → List (List ℕ)
names_by (Some number) text names = names
names_by None text names = new_names text names

abbrev pub names_joined : List ℕ → List (List ℕ) → List (List ℕ)
names_joined text names = names_by (place_of text names) text names

-- the names after texts have joined, one after the other
unfoldable pub names_after : List (List ℕ) → List (List ℕ) → List (List ℕ)
names_after [] names = names
names_after (text ∷ texts) names = names_after texts (names_joined text names)

-- the operator that a name names, if the number is a name's and there is one
abbrev pub operator_at : ℕ → List (List ℕ) → Option Operator
operator_at number names = option_and_then operator_named (slice_get names number)

-- a text lasts under its number: whatever joins later, it is found there and read back there, and joins no second time
pub record Lasts (text : List ℕ) (number : ℕ) (names : List (List ℕ)) : Type 0 where
  pub found : (later : List (List ℕ)) → place_of text (names_after later names) ≡ Some number
  pub again : (later : List (List ℕ)) → join_answer text (names_after later names) ≡ Ok number
  pub read : (later : List (List ℕ)) → slice_get (names_after later names) number ≡ Some text

-- no two names are the same: each is found under its own number
abbrev pub Apart : List (List ℕ) → Type 0
Apart names = (i : ℕ) → i < length names → place_of (slice_index_or names i []) names ≡ Some i
