-- [ leaves a mark.
use Rattle.std.specs.Prelude.{Ok, Result}
use Rattle.objects.specs.declared.fault.Fault.{Fault}
use Rattle.stacks.specs.Stacked.{pushed}
use Rattle.operators.specs.Operands.{then}
use Rattle.operators.specs.Stack.{mark}
use Rattle.operators.specs.States.{State, with_operands}

abbrev pub marked : State → Result State Fault
marked s = then (pushed mark s.operands) (λ o. Ok (with_operands o s))
