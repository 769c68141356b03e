-- eq and ne.
use Rattle.std.specs.Prelude.{◌≡◌, ℕ, Bool, true, false, not, List, [], ◌∷◌, ℤ, pos, negsuc, Some, None, Ok, Decides, Option, Result}
use Rattle.std.specs.Str.{bytes_eq}
use Rattle.objects.specs.Operators.{name}
use Rattle.objects.specs.declared.fault.Fault.{Fault}
use Rattle.objects.specs.declared.object.Value.{Value}
use Rattle.objects.specs.declared.object.Value.TheVariants.{Null, Integer, Boolean, Mark, Name, Operator, Array, String, Dictionary, Save, Header}
use Rattle.memory.specs.Memories.{InUse}
use Rattle.objects.specs.Objects.{truth}
use Rattle.stacks.specs.Stacked.{replaced}
use Rattle.operators.specs.Operands.{then, read_two}
use Rattle.operators.specs.States.{State, with_operands}
use Rattle.operators.specs.Texts.{text_of}
use Rattle.text_operators.specs.ObjectTexts.{name_text}

-- names and strings have letters, by which they are compared
abbrev pub letters_among : Value → List (List ℕ) → InUse → Option (List ℕ)
letters_among Null names m = None
letters_among (Integer z) names m = None
letters_among (Boolean b) names m = None
letters_among Mark names m = None
letters_among (Name n) names m = Some (name_text n names)
letters_among (Operator o) names m = None
letters_among (Array a) names m = None
letters_among (String a) names m = Some (text_of a m)
letters_among (Dictionary d) names m = None
letters_among (Save n) names m = None
letters_among (Header h) names m = None

abbrev pub letters : Value → State → Option (List ℕ)
letters v s = letters_among v s.names s.memory

abbrev integer_numbers : ℤ → List ℕ
integer_numbers (pos n) = 0 ∷ n ∷ []
integer_numbers (negsuc n) = 1 ∷ n ∷ []

abbrev flag_number : Bool → ℕ
flag_number true = 1
flag_number false = 0

-- a value in numbers, the first of which tells the type: no two values have the same
abbrev pub numbers : Value → List ℕ
numbers Null = 0 ∷ []
numbers (Integer z) = 1 ∷ integer_numbers z
numbers (Boolean b) = 2 ∷ flag_number b ∷ []
numbers Mark = 3 ∷ []
numbers (Name n) = 4 ∷ n ∷ []
numbers (Operator o) = 5 ∷ name o
numbers (Array a) = 6 ∷ a.start ∷ a.len ∷ []
numbers (String a) = 7 ∷ a.start ∷ a.len ∷ []
numbers (Dictionary d) = 8 ∷ d ∷ []
numbers (Save n) = 9 ∷ n ∷ []
numbers (Header h) = 10 ∷ h.count ∷ h.capacity ∷ []

unfoldable pub same_value : Value → Value → Bool
same_value a b = bytes_eq (numbers a) (numbers b)

-- by their letters if both have letters, by value if neither has
abbrev pub same_by : Option (List ℕ) → Option (List ℕ) → Bool → Bool
same_by (Some x) (Some y) by_value = bytes_eq x y
same_by (Some x) None by_value = false
same_by None (Some y) by_value = false
same_by None None by_value = by_value

abbrev pub same_among : Value → Value → List (List ℕ) → InUse → Bool
same_among a b names m = same_by (letters_among a names m) (letters_among b names m) (same_value a b)

-- whether two objects are the same on a machine, whatever their flags
abbrev pub same : Value → Value → State → Bool
same a b s = same_among a b s.names s.memory

-- whether the top two operands are the same
abbrev pub two_same : State → Result Bool Fault
two_same s = then (read_two Ok s.operands) (λ ab. Ok (same ab.0.value ab.1.value s))

-- two operands give way to a boolean
abbrev pub two_told : Bool → State → State
two_told b s = with_operands (replaced 2 (truth b) s.operands) s

-- whether it is true, or with false wanted, whether it is false
abbrev pub as_wanted : Bool → Bool → Bool
as_wanted true b = b
as_wanted false b = not b

-- whether the top two are the same, or with false wanted, whether they are not
abbrev pub same_told : Bool → State → Result State Fault
same_told wanted s = then (two_same s) (λ b. Ok (two_told (as_wanted wanted b) s))

abbrev pub equal_told : State → Result State Fault
equal_told s = then (two_same s) (λ b. Ok (two_told b s))

abbrev pub unequal_told : State → Result State Fault
unequal_told s = then (two_same s) (λ b. Ok (two_told (not b) s))

-- sameness on a machine is an equivalence: by letters if both have letters, by value if neither has, and never if only one has
pub record Sameness (s : State) : Type 0 where
  pub itself : (a : Value) → same a a s ≡ true
  pub either_way : (a b : Value) → same a b s ≡ same b a s
  pub onward : (a b c : Value) → same a b s ≡ true → same b c s ≡ true → same a c s ≡ true
  pub by_letters : (a b : Value) (x y : List ℕ) → letters a s ≡ Some x → letters b s ≡ Some y → Decides (same a b s) (x ≡ y)
  pub by_value : (a b : Value) → letters a s ≡ None → letters b s ≡ None → Decides (same a b s) (a ≡ b)
  pub apart : (a b : Value) (x : List ℕ) → letters a s ≡ Some x → letters b s ≡ None → same a b s ≡ false
