-- The open dictionaries: currentdict countdictstack userdict begin end.
use Rattle.std.specs.Prelude.{ℕ, ◌-◌, cond, List, ◌∷◌, length, drop, pos, Ok, Err, Option, Result, ok_or, nat_le, nat_lt}
use Rattle.std.specs.List.{slice_get}
use Rattle.objects.specs.Objects.{literal, integer}
use Rattle.objects.specs.declared.fault.Fault.{Fault}
use Rattle.objects.specs.declared.fault.Fault.TheVariants.{DictStackUnderflow, DictStackOverflow}
use Rattle.objects.specs.declared.object.Object.{Object}
use Rattle.objects.specs.declared.object.Value.TheVariants.{Dictionary}
use Rattle.stacks.specs.Stacked.{discarded}
use Rattle.operators.specs.Operands.{then, dictionary_at}
use Rattle.operators.specs.States.{State, with_operand, with_operands, with_dictionaries}

-- literal
abbrev pub dictionary_object : ℕ → Object
dictionary_object d = literal (Dictionary d)

-- an open dictionary; where none is open there is none to speak of
abbrev pub if_open : Option ℕ → Result ℕ Fault
if_open d = ok_or d DictStackUnderflow

-- the top one
abbrev pub current : List ℕ → Result ℕ Fault
current ds = if_open (slice_get ds 0)

-- the lowest one, which is userdict
abbrev pub bottom : List ℕ → Result ℕ Fault
bottom ds = if_open (slice_get ds (length ds - 1))

abbrev pub current_pushed : State → Result State Fault
current_pushed s = then (current s.dictionaries) (λ d. with_operand (dictionary_object d) s)

abbrev pub user_pushed : State → Result State Fault
user_pushed s = then (bottom s.dictionaries) (λ d. with_operand (dictionary_object d) s)

abbrev pub open_counted : State → Result State Fault
open_counted s = with_operand (integer (pos (length s.dictionaries))) s

-- at most 20 are open
abbrev pub begun : State → Result State Fault
begun s =
    then (dictionary_at 0 s.operands) (λ d. cond (nat_lt (length s.dictionaries) 20)
    (Ok (with_operands (discarded 1 s.operands) (with_dictionaries (d ∷ s.dictionaries) s)))
    (Err DictStackOverflow))

-- the lowest stays open
abbrev pub ended : State → Result State Fault
ended s = cond (nat_le (length s.dictionaries) 1) (Err DictStackUnderflow) (Ok (with_dictionaries (drop 1 s.dictionaries) s))
