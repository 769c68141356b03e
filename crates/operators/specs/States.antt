-- What a machine stands for, and how a part of that is changed.
use Rattle.std.specs.Prelude.{ℕ, List, Ok, Result}
use Rattle.memory.specs.Memories.{InUse}
use Rattle.objects.specs.declared.fault.Fault.{Fault}
use Rattle.objects.specs.declared.object.Object.{Object}
use Rattle.stacks.specs.Stacked.{Stacked, pushed}
use Rattle.operators.specs.Operands.{then}
use Rattle.operators.specs.declared.frame.Frame.{Frame}

-- operands, dictionaries and frames top first
pub record State : Type 0 where
  pub memory : InUse
  pub names : List (List ℕ)
  pub operands : Stacked
  pub dictionaries : List ℕ
  pub frames : List Frame
  pub output : List ℕ

abbrev pub with_memory : InUse → State → State
with_memory m s = record s { memory = m }

abbrev pub with_names : List (List ℕ) → State → State
with_names ns s = record s { names = ns }

abbrev pub with_operands : Stacked → State → State
with_operands o s = record s { operands = o }

abbrev pub with_dictionaries : List ℕ → State → State
with_dictionaries ds s = record s { dictionaries = ds }

abbrev pub with_frames : List Frame → State → State
with_frames f s = record s { frames = f }

abbrev pub with_output : List ℕ → State → State
with_output o s = record s { output = o }

-- one more operand
abbrev pub with_operand : Object → State → Result State Fault
with_operand o s = then (pushed o s.operands) (λ os. Ok (with_operands os s))
