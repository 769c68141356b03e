-- n dict, maxlength.
use Rattle.std.specs.Prelude.{ℕ, cond, pos, Ok, Err, Result, nat_le}
use Rattle.objects.specs.declared.fault.Fault.{Fault}
use Rattle.objects.specs.Objects.{integer}
use Rattle.objects.specs.declared.fault.Fault.TheVariants.{LimitCheck}
use Rattle.memory.specs.Dictionaries.{dictionary_made, header_in}
use Rattle.stacks.specs.Stacked.{Stacked, replaced}
use Rattle.operators.specs.Operands.{then, natural_at, dictionary_at}
use Rattle.operators.specs.States.{State, with_memory, with_operands}
use Rattle.dictionary_operators.specs.Open.{dictionary_object}

-- a dictionary is for at most 1,000 entries
abbrev pub limited : ℕ → Result ℕ Fault
limited n = cond (nat_le n 1000) (Ok n) (Err LimitCheck)

abbrev pub size_at : ℕ → Stacked → Result ℕ Fault
size_at n s = then (natural_at n s) limited

-- an empty dictionary for n entries, for n
abbrev pub made_dictionary : State → Result State Fault
made_dictionary s =
    then (size_at 0 s.operands) (λ n. then (dictionary_made n s.memory) (λ m.
    Ok (with_operands (replaced 1 (dictionary_object s.memory.slot_top) s.operands) (with_memory m s))))

-- for a dictionary, for how many entries it is
abbrev pub capacity_told : State → Result State Fault
capacity_told s =
    then (dictionary_at 0 s.operands) (λ d.
    Ok (with_operands (replaced 1 (integer (pos (header_in s.memory d).capacity)) s.operands) s))
