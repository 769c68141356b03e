use Rattle.std.proofs.Common.{◌≡◌, ◌-◌}
use Rattle.memory.specs.Memories.{emptied}
use Rattle.memory.proofs.memory.Memory.take.Given as goal

abbrev pub invariant-loop-at : goal.invariant-loop-at
invariant-loop-at g l = l.self ≡ emptied g.C.Cell.part l.start (l.at - l.start) l.initial.self
