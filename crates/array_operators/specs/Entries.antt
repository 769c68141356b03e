-- get and put on dictionaries.
use Rattle.std.specs.Prelude.{ℕ, Ok, Result, ok_or}
use Rattle.objects.specs.declared.fault.Fault.{Fault}
use Rattle.objects.specs.declared.fault.Fault.TheVariants.{Undefined}
use Rattle.objects.specs.declared.object.Object.{Object}
use Rattle.memory.specs.Dictionaries.{slot_in, value_place, pair_of, defined}
use Rattle.memory.specs.Memories.{InUse}
use Rattle.memory.specs.declared.key.Key.{Key}
use Rattle.stacks.specs.Stacked.{replaced, discarded}
use Rattle.operators.specs.Keys.{key_at, key_joined}
use Rattle.operators.specs.Operands.{then, operand_at}
use Rattle.operators.specs.Outcomes.{Outcome, done, go_on}
use Rattle.operators.specs.States.{State, with_memory, with_operands}

-- the value of a key in a dictionary
abbrev pub value_of : ℕ → Key → InUse → Result Object Fault
value_of d k m = then (ok_or (pair_of m d k) Undefined) (λ i. Ok (slot_in m (value_place d i)))

-- dictionary and key give way to the key's value
abbrev pub entry_got : ℕ → Key → State → Result State Fault
entry_got d k s = then (value_of d k s.memory) (λ o. Ok (with_operands (replaced 2 o s.operands) s))

abbrev pub value_got : ℕ → State → Outcome
value_got d s = go_on (key_joined 0 s) (key_at 0 s) (λ k. done (entry_got d k (key_joined 0 s)) (key_joined 0 s))

-- the key is defined as the value, and the three operands go
abbrev pub entry_put : ℕ → Key → Object → State → Result State Fault
entry_put d k o s = then (defined d k o s.memory) (λ m. Ok (with_operands (discarded 3 s.operands) (with_memory m s)))

abbrev pub value_put : ℕ → State → Outcome
value_put d s =
    go_on s (operand_at 0 s.operands) (λ o. go_on (key_joined 1 s) (key_at 1 s) (λ k. done (entry_put d k o (key_joined 1 s)) (key_joined 1 s)))
