-- Each refusal has a number of its own.
use Rattle.std.proofs.Common.{◌≡◌, ℕ, List, [], ◌∷◌, get_or, sym, refl, ap, ◌∙◌}
use Rattle.objects.specs.Faults.{fault_number}
use Rattle.objects.specs.declared.fault.Fault.{Fault}
use Rattle.objects.specs.declared.fault.Fault.TheVariants.{StackUnderflow, TypeCheck, RangeCheck, LimitCheck, Undefined, UndefinedResult, UnmatchedMark, InvalidExit, InvalidRestore, DictFull, DictStackUnderflow, DictStackOverflow, ExecStackOverflow, VmError, IoError, StackOverflow, SyntaxError, UncaughtStop, NotSetUp, SecondSetUp, NoOperand}

-- by number; the numbers 0 and 3, which no refusal has, stand for the first
abbrev by_number : List Fault
by_number = StackUnderflow ∷ StackUnderflow ∷ TypeCheck ∷ StackUnderflow ∷ RangeCheck ∷ LimitCheck ∷ Undefined ∷ UndefinedResult ∷ UnmatchedMark ∷ InvalidExit ∷ InvalidRestore ∷ DictFull ∷ DictStackUnderflow ∷ DictStackOverflow ∷ ExecStackOverflow ∷ VmError ∷ IoError ∷ StackOverflow ∷ SyntaxError ∷ UncaughtStop ∷ NotSetUp ∷ SecondSetUp ∷ NoOperand ∷ []

abbrev numbered : ℕ → Fault
numbered n = get_or by_number n StackUnderflow

numbered_number : (f : Fault) → numbered (fault_number f) ≡ f
numbered_number StackUnderflow = refl
numbered_number f = refl

pub same_from_number : (a b : Fault) → fault_number a ≡ fault_number b → a ≡ b
same_from_number a b e = sym (numbered_number a) ∙ ap numbered e ∙ numbered_number b
