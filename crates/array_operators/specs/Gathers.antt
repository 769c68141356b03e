-- ]
use Rattle.std.specs.Prelude.{◌+◌, Ok, Result, ok_or}
use Rattle.objects.specs.declared.fault.Fault.{Fault}
use Rattle.objects.specs.declared.fault.Fault.TheVariants.{UnmatchedMark}
use Rattle.memory.specs.Memories.{take_slots}
use Rattle.stacks.specs.Stacked.{count_to_mark, replaced}
use Rattle.operators.specs.Arrays.{array_object}
use Rattle.operators.specs.Operands.{then}
use Rattle.operators.specs.States.{State, with_memory, with_operands}
use Rattle.array_operators.specs.Stores.{stored}

-- the operands above the topmost mark become the elements of a new array, the lowest first; they and the mark give way to it
abbrev pub gathered : State → Result State Fault
gathered s =
    then (ok_or (count_to_mark s.operands) UnmatchedMark) (λ n. then (take_slots n s.memory) (λ m.
    Ok (with_operands (replaced (n + 1) (array_object s.memory.slot_top n) s.operands) (with_memory (stored 0 s.memory.slot_top n s.operands.objects m) s))))
