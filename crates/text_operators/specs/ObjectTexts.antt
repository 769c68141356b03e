-- The text of an object.
use Rattle.std.specs.Prelude.{ℕ, Bool, true, false, List, [], codes, unwrap_or}
use Rattle.std.specs.List.{slice_get}
use Rattle.objects.specs.Decimals.{integer_text}
use Rattle.objects.specs.declared.object.Value.{Value}
use Rattle.objects.specs.declared.object.Value.TheVariants.{Null, Integer, Boolean, Mark, Name, Operator, Array, String, Dictionary, Save, Header}
use Rattle.memory.specs.Memories.{InUse}
use Rattle.operators.specs.States.{State}
use Rattle.operators.specs.Texts.{text_of}

-- a number that no name has counts as an empty name
abbrev pub name_text : ℕ → List (List ℕ) → List ℕ
name_text number names = unwrap_or (slice_get names number) []

abbrev pub truth_text : Bool → List ℕ
truth_text true = codes "true"
truth_text false = codes "false"

-- what has no text of its own
unfoldable pub no_text : List ℕ
no_text = codes "--nostringval--"

abbrev pub text_among : Value → List (List ℕ) → InUse → List ℕ
text_among Null names m = no_text
text_among (Integer z) names m = integer_text z
text_among (Boolean b) names m = truth_text b
text_among Mark names m = no_text
text_among (Name n) names m = name_text n names
text_among (Operator o) names m = no_text
text_among (Array a) names m = no_text
text_among (String a) names m = text_of a m
text_among (Dictionary d) names m = no_text
text_among (Save n) names m = no_text
text_among (Header h) names m = no_text

-- an object's text on a machine
abbrev pub object_text : Value → State → List ℕ
object_text v s = text_among v s.names s.memory
