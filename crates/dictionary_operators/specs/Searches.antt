-- where store load: what the open dictionaries have under a key, from the top down.
use Rattle.std.specs.Prelude.{ℕ, true, false, Some, None, Ok, Option, Result, ok_or, option_map}
use Rattle.objects.specs.declared.fault.Fault.{Fault}
use Rattle.objects.specs.declared.fault.Fault.TheVariants.{Undefined}
use Rattle.objects.specs.declared.object.Object.{Object}
use Rattle.objects.specs.declared.object.Value.TheVariants.{Operator}
use Rattle.objects.specs.declared.operator.Operator as operator
use Rattle.memory.specs.Dictionaries.{first_entry, slot_in, value_place}
use Rattle.memory.specs.declared.dictionary.Entry.{Entry}
use Rattle.memory.specs.declared.key.Key.{Key}
use Rattle.memory.specs.declared.key.Key.TheVariants.{Name, Integer, Boolean}
use Rattle.names.specs.Names.{operator_at}
use Rattle.objects.specs.Objects.{truth}
use Rattle.stacks.specs.Stacked.{Stacked, pushed, written, replaced}
use Rattle.operators.specs.Keys.{key_at, key_joined}
use Rattle.operators.specs.Operands.{then, operand_at}
use Rattle.operators.specs.States.{State, with_operands}
use Rattle.dictionary_operators.specs.Entries.{defined_in}
use Rattle.dictionary_operators.specs.Open.{current, dictionary_object}

-- the first match from the top down
abbrev pub entry_for : Key → State → Option Entry
entry_for k s = first_entry s.memory k s.dictionaries

-- the dictionary that has the key, else the top one
abbrev pub dictionary_or_current : Option Entry → State → Result ℕ Fault
dictionary_or_current (Some e) s = Ok e.dictionary
dictionary_or_current None s = current s.dictionaries

abbrev pub store_place : Key → State → Result ℕ Fault
store_place k s = dictionary_or_current (entry_for k s) s

abbrev pub key_stored : State → Result State Fault
key_stored s =
    then (key_at 1 s) (λ k. then (operand_at 0 s.operands) (λ o. then (store_place k s) (λ d.
    defined_in d k o (key_joined 1 s))))

-- executable
abbrev pub operator_object : operator.Operator → Object
operator_object o = record { value = Operator o; executable = true }

abbrev pub as_object : Option operator.Operator → Option Object
as_object o = option_map operator_object o

-- the operator that a key names: only a name does
abbrev pub key_operator : Key → State → Option Object
key_operator (Name n) s = as_object (operator_at n s.names)
key_operator (Integer z) s = None
key_operator (Boolean b) s = None

abbrev pub value_or_operator : Option Entry → Key → State → Option Object
value_or_operator (Some e) k s = Some (slot_in s.memory (value_place e.dictionary e.pair))
value_or_operator None k s = key_operator k s

-- a lookup answers a value or none: first the open dictionaries from the top down, then the operators
abbrev pub looked_up : Key → State → Option Object
looked_up k s = value_or_operator (entry_for k s) k s

abbrev pub or_undefined : Option Object → Result Object Fault
or_undefined o = ok_or o Undefined

-- a key for its value
abbrev pub key_loaded : State → Result State Fault
key_loaded s =
    then (key_at 0 s) (λ k. then (or_undefined (looked_up k (key_joined 0 s))) (λ o.
    Ok (with_operands (replaced 1 o s.operands) (key_joined 0 s))))

-- true on top, and the dictionary in place of the key
abbrev pub place_told : ℕ → Stacked → Result Stacked Fault
place_told d s = then (pushed (truth true) s) (λ os. Ok (written 1 (dictionary_object d) os))

abbrev pub dictionary_told : ℕ → State → Result State Fault
dictionary_told d s = then (place_told d s.operands) (λ os. Ok (with_operands os s))

-- or false in place of the key
abbrev pub entry_told : Option Entry → State → Result State Fault
entry_told None s = Ok (with_operands (replaced 1 (truth false) s.operands) s)
entry_told (Some e) s = dictionary_told e.dictionary s

-- where does not look at the operators
abbrev pub place_found : State → Result State Fault
place_found s = then (key_at 0 s) (λ k. entry_told (entry_for k s) (key_joined 0 s))
