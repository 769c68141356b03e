-- What an operator answers and what it leaves, where a refusal may leave a new name.
use Rattle.std.specs.Prelude.{Ok, Err, Result}
use Rattle.objects.specs.Outcomes.{after, heard}
use Rattle.objects.specs.declared.fault.Fault.{Fault}
use Rattle.operators.specs.States.{State}

pub record Outcome : Type 0 where
  pub answer : Result (Unit {0}) Fault
  pub state : State

-- a refusal that leaves all as it was
abbrev pub refused : Fault → State → Outcome
refused e s = record { answer = Err e; state = s }

-- done, or refused with all as it was
abbrev pub done : Result State Fault → State → Outcome
done r s = record { answer = heard r; state = after r s }

-- a refusal ends what was to be done; otherwise it goes on with the value
abbrev pub go_on : {A : Type 0} → State → Result A Fault → (A → Outcome) → Outcome
go_on s (Ok x) f = f x
go_on s (Err e) f = refused e s
