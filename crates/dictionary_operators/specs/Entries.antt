-- def known: what one dictionary has under a key.
use Rattle.std.specs.Prelude.{ℕ, Ok, Result, is_some}
use Rattle.objects.specs.Outcomes.{after}
use Rattle.objects.specs.declared.fault.Fault.{Fault}
use Rattle.objects.specs.declared.object.Object.{Object}
use Rattle.memory.specs.Dictionaries.{defined, pair_of}
use Rattle.memory.specs.declared.key.Key.{Key}
use Rattle.objects.specs.Objects.{truth}
use Rattle.stacks.specs.Stacked.{discarded, replaced}
use Rattle.operators.specs.Keys.{key_at, key_joined}
use Rattle.operators.specs.Operands.{then, operand_at, dictionary_at}
use Rattle.operators.specs.States.{State, with_memory, with_operands}
use Rattle.dictionary_operators.specs.Open.{current}

-- key and value go from the operands into a dictionary
abbrev pub defined_in : ℕ → Key → Object → State → Result State Fault
defined_in d k o s = then (defined d k o s.memory) (λ m. Ok (with_operands (discarded 2 s.operands) (with_memory m s)))

-- def defines in the top dictionary; a key that joined the names stays joined if dictfull follows
abbrev pub key_defined : State → Result State Fault
key_defined s =
    then (key_at 1 s) (λ k. then (operand_at 0 s.operands) (λ o. then (current s.dictionaries) (λ d.
    defined_in d k o (key_joined 1 s))))

-- a dictionary and a key for whether it has the key
abbrev pub key_known : State → Result State Fault
key_known s =
    then (dictionary_at 1 s.operands) (λ d. then (key_at 0 s) (λ k.
    Ok (with_operands (replaced 2 (truth (is_some (pair_of s.memory d k))) s.operands) (key_joined 0 s))))

-- what known leaves when it is refused: the key joins only beside a dictionary
abbrev pub joined_beside_dictionary : State → State
joined_beside_dictionary s = after (then (dictionary_at 1 s.operands) (λ _. Ok (key_joined 0 s))) s
