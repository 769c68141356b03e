use Rattle.std.proofs.Common.{◌≡◌, ◌-◌}
use Rattle.array_operators.specs.Loads.{loaded}
use Rattle.array_operators.proofs.aload.load.Given as goal

-- what is left to load gives what all gives
abbrev pub invariant-loop-at : goal.invariant-loop-at
invariant-loop-at g l = loaded l.at (l.at-end - l.at) l.memory l.operands ≡ loaded l.fn.span.start l.fn.span.len l.memory l.initial.operands
