-- Operators that take a step as a closure: what the closure computes, the operator does.
use Rattle.std.specs.Prelude.{◌≡◌, ℕ, Result, Option, ok_or}
use Rattle.std.specs.Borrow.{Bor}
use Rattle.objects.specs.Outcomes.{after, heard}
use Rattle.objects.specs.Objects.{literal}
use Rattle.objects.specs.declared.fault.Fault.{Fault}
use Rattle.objects.specs.declared.fault.Fault.TheVariants.{UndefinedResult}
use Rattle.objects.specs.declared.object.Object.{Object}
use Rattle.objects.specs.declared.object.Span.{Span}
use Rattle.objects.specs.declared.object.Value.{Value}

-- whatever the step gives at two values is what f gives
abbrev pub Computes : {A R : Type 0} → (A → A → R → Type 0) → (A → A → R) → Type 0
Computes {A} {R} gives f = (a b : A) (r : R) → gives a b r → r ≡ f a b

-- where a step gives nothing, f refuses with undefinedresult
abbrev pub ComputesTwo : {A R : Type 0} → (A → A → Option R → Type 0) → (A → A → Result R Fault) → Type 0
ComputesTwo {A} {R} gives f = (a b : A) (r : Option R) → gives a b r → ok_or r UndefinedResult ≡ f a b

abbrev pub ComputesOne : {A R : Type 0} → (A → Option R → Type 0) → (A → Result R Fault) → Type 0
ComputesOne {A} {R} gives f = (a : A) (r : Option R) → gives a r → ok_or r UndefinedResult ≡ f a

-- whatever value the step gives for a place in memory, the object with it is the one that f gives
abbrev pub ComputesObject : (Span → Value → Type 0) → (ℕ → ℕ → Object) → Type 0
ComputesObject gives f = (s : Span) (v : Value) → gives s v → literal v ≡ f s.start s.len

-- whatever the step gives of a value that is lent to it is what f gives of the value
abbrev pub ComputesLent : {A R : Type 0} → (Bor A → R → Type 0) → (A → R) → Type 0
ComputesLent {A} {R} gives f = (a : Bor A) (r : R) → gives a r → r ≡ f a.now

-- the answer, and what is left, are those of an outcome
pub record Follows {S : Type 0} (outcome : Result S Fault) (old : S) (answer : Result (Unit {0}) Fault) (new : S) : Type 0 where
  pub answered : answer ≡ heard outcome
  pub left : new ≡ after outcome old
