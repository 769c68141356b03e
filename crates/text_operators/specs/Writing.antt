-- print and =.
use Rattle.std.specs.Prelude.{◌≡◌, ℕ, List, [], ◌∷◌, ◌++◌, Ok, Result}
use Rattle.objects.specs.declared.fault.Fault.{Fault}
use Rattle.objects.specs.declared.object.Span.{Span}
use Rattle.stacks.specs.Printed.{appended}
use Rattle.stacks.specs.Stacked.{Stacked, discarded}
use Rattle.operators.specs.Operands.{then, read_at, as_string, operand_at}
use Rattle.operators.specs.States.{State, with_operands, with_output}
use Rattle.operators.specs.Texts.{text_of}
use Rattle.text_operators.specs.ObjectTexts.{object_text}

-- a text is out, and the top operand is gone
abbrev pub put_out : List ℕ → State → Result State Fault
put_out text s = then (appended text s.output) (λ out. Ok (with_operands (discarded 1 s.operands) (with_output out s)))

abbrev pub string_at : ℕ → Stacked → Result Span Fault
string_at = read_at as_string

-- a string's bytes
abbrev pub string_out : State → Result State Fault
string_out s = then (string_at 0 s.operands) (λ a. put_out (text_of a s.memory) s)

-- an object's text and a line feed
abbrev pub line_out : State → Result State Fault
line_out s = then (operand_at 0 s.operands) (λ o. put_out (object_text o.value s ++ 10 ∷ []) s)

-- what was out stays out, and before all that comes after it
pub record Grown (old new : State) : Type 0 where
  pub more : List ℕ
  pub output : new.output ≡ old.output ++ more
