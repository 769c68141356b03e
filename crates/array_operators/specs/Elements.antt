-- get and put.
use Rattle.std.specs.Prelude.{pos, Ok, Result}
use Rattle.objects.specs.Objects.{integer}
use Rattle.objects.specs.declared.fault.Fault.{Fault}
use Rattle.objects.specs.declared.fault.Fault.TheVariants.{TypeCheck}
use Rattle.objects.specs.declared.object.Span.{Span}
use Rattle.objects.specs.declared.object.Value.{Value}
use Rattle.objects.specs.declared.object.Value.TheVariants.{Null, Integer, Boolean, Mark, Name, Operator, Array, String, Dictionary, Save, Header}
use Rattle.memory.specs.Dictionaries.{slot_in}
use Rattle.memory.specs.Memories.{with_slot, with_byte}
use Rattle.stacks.specs.Stacked.{replaced, discarded}
use Rattle.operators.specs.Operands.{then, at_least, operand_at, integer_at}
use Rattle.operators.specs.States.{State, with_memory, with_operands}
use Rattle.array_operators.specs.Indices.{place_in, place_at, byte_value}
use Rattle.array_operators.specs.Entries.{value_got, value_put}
use Rattle.operators.specs.Outcomes.{Outcome, refused, done, go_on}
use Rattle.operators.specs.Texts.{byte_in}

-- array and index give way to the element
abbrev pub element_got : Span → State → Result State Fault
element_got a s =
    then (place_at 0 a s.operands) (λ i. Ok (with_operands (replaced 2 (slot_in s.memory i) s.operands) s))

-- string and index give way to the byte
abbrev pub byte_got : Span → State → Result State Fault
byte_got a s =
    then (place_at 0 a s.operands) (λ i. Ok (with_operands (replaced 2 (integer (pos (byte_in s.memory i))) s.operands) s))

abbrev pub got_from : Value → State → Outcome
got_from Null s = refused TypeCheck s
got_from (Integer z) s = refused TypeCheck s
got_from (Boolean b) s = refused TypeCheck s
got_from Mark s = refused TypeCheck s
got_from (Name n) s = refused TypeCheck s
got_from (Operator o) s = refused TypeCheck s
got_from (Array a) s = done (element_got a s) s
got_from (String a) s = done (byte_got a s) s
got_from (Dictionary d) s = value_got d s
got_from (Save n) s = refused TypeCheck s
got_from (Header h) s = refused TypeCheck s

abbrev pub got : State → Outcome
got s = go_on s (at_least 2 s.operands) (λ _. go_on s (operand_at 1 s.operands) (λ o. got_from o.value s))

-- the element becomes the value, and the three operands go
abbrev pub element_put : Span → State → Result State Fault
element_put a s =
    then (place_at 1 a s.operands) (λ i. then (operand_at 0 s.operands) (λ o.
    Ok (with_operands (discarded 3 s.operands) (with_memory (with_slot i o s.memory) s))))

abbrev pub byte_put : Span → State → Result State Fault
byte_put a s =
    then (integer_at 1 s.operands) (λ z. then (integer_at 0 s.operands) (λ v. then (place_in a z) (λ i. then (byte_value v) (λ b.
    Ok (with_operands (discarded 3 s.operands) (with_memory (with_byte i b s.memory) s))))))

abbrev pub put_into : Value → State → Outcome
put_into Null s = refused TypeCheck s
put_into (Integer z) s = refused TypeCheck s
put_into (Boolean b) s = refused TypeCheck s
put_into Mark s = refused TypeCheck s
put_into (Name n) s = refused TypeCheck s
put_into (Operator o) s = refused TypeCheck s
put_into (Array a) s = done (element_put a s) s
put_into (String a) s = done (byte_put a s) s
put_into (Dictionary d) s = value_put d s
put_into (Save n) s = refused TypeCheck s
put_into (Header h) s = refused TypeCheck s

abbrev pub was_put : State → Outcome
was_put s = go_on s (at_least 3 s.operands) (λ _. go_on s (operand_at 2 s.operands) (λ o. put_into o.value s))
