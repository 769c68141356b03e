-- aload and astore.
use Rattle.std.specs.Prelude.{ℕ, zero, suc, ◌+◌, cond, List, ◌∷◌, drop, Ok, Err, Result, nat_le}
use Rattle.objects.specs.Outcomes.{after}
use Rattle.objects.specs.declared.fault.Fault.{Fault}
use Rattle.objects.specs.declared.fault.Fault.TheVariants.{StackOverflow}
use Rattle.objects.specs.declared.object.Object.{Object}
use Rattle.memory.specs.Dictionaries.{slot_in}
use Rattle.memory.specs.Memories.{InUse}
use Rattle.stacks.specs.Stacked.{Stacked, with_objects, pushed, replaced, room_in}
use Rattle.operators.specs.Operands.{then, at_least, operand_at, as_array}
use Rattle.operators.specs.States.{State, with_memory, with_operands}
use Rattle.array_operators.specs.Stores.{stored}

-- the array on top is filled from the operands below it, the lowest first; all of them give way to the array
abbrev pub array_filled : State → Result State Fault
array_filled s =
    then (operand_at 0 s.operands) (λ o. then (as_array o) (λ a. then (at_least (a.len + 1) s.operands) (λ _.
    Ok (with_operands (replaced (a.len + 1) o s.operands) (with_memory (stored 1 a.start a.len s.operands.objects s.memory) s)))))

-- one more operand, where there is room
abbrev pub topped : Object → Stacked → Stacked
topped o s = after (pushed o s) s

-- so many elements pushed one after the other
unfoldable pub loaded : ℕ → ℕ → InUse → Stacked → Stacked
loaded at zero m s = s
loaded at (suc n) m s = loaded (at + 1) n m (topped (slot_in m at) s)

-- the elements in n slots from a place on, over the operands below them: the last on top
unfoldable pub elements_on : ℕ → ℕ → InUse → List Object → List Object
elements_on at zero m os = os
elements_on at (suc n) m os = elements_on (at + 1) n m (slot_in m at ∷ os)

-- the array gives way to its elements and itself: all of them have room, or none is pushed
abbrev pub array_loaded : State → Result State Fault
array_loaded s =
    then (operand_at 0 s.operands) (λ o. then (as_array o) (λ a.
    cond (nat_le a.len (room_in s.operands))
    (Ok (with_operands (with_objects (o ∷ elements_on a.start a.len s.memory (drop 1 s.operands.objects)) s.operands) s))
    (Err StackOverflow)))
