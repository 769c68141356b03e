-- Frames made and taken down by the control operators.
use Rattle.std.specs.Prelude.{ℕ, ◌+◌, Bool, true, false, cond, List, [], ◌∷◌, length, drop, Some, None, Ok, Err, Option, Result, ◌==◌, nat_lt, ok_or}
use Rattle.objects.specs.declared.fault.Fault.{Fault}
use Rattle.objects.specs.declared.fault.Fault.TheVariants.{ExecStackOverflow, InvalidExit}
use Rattle.objects.specs.declared.object.Span.{Span}
use Rattle.objects.specs.declared.object.Value.{Value}
use Rattle.objects.specs.declared.object.Value.TheVariants as value
use Rattle.stacks.specs.Stacked.{Stacked, discarded, opened}
use Rattle.operators.specs.Operands.{then, at_least, of_type, operand_at, integer_at, natural, boolean_at, procedure_at}
use Rattle.operators.specs.States.{State, with_operands, with_frames}
use Rattle.operators.specs.declared.frame.Frame.{Frame}
use Rattle.operators.specs.declared.frame.Frame.TheVariants as frame

-- one frame more, of at most 250
abbrev pub framed : Frame → State → Result State Fault
framed f s = cond (nat_lt (length s.frames) 250) (Ok (with_frames (f ∷ s.frames) s)) (Err ExecStackOverflow)

-- an empty procedure makes no frame
abbrev pub started : Span → State → Result State Fault
started p s = cond (p.len == 0) (Ok s) (framed (frame.Procedure p) s)

abbrev pub without : ℕ → State → State
without n s = with_operands (discarded n s.operands) s

-- a frame for the top n operands
abbrev pub framed_for : Frame → ℕ → State → Result State Fault
framed_for f n s = then (framed f s) (λ t. Ok (without n t))

-- a procedure's frame for the top n operands
abbrev pub started_for : Span → ℕ → State → Result State Fault
started_for p n s = then (started p s) (λ t. Ok (without n t))

abbrev pub executed : State → Result State Fault
executed s = then (procedure_at 0 s.operands) (λ p. started_for p 1 s)

-- the procedure runs where the boolean is true
abbrev pub started_if : Bool → Span → State → Result State Fault
started_if true p s = started_for p 2 s
started_if false p s = Ok (without 2 s)

abbrev pub conditional : State → Result State Fault
conditional s =
    then (at_least 2 s.operands) (λ _. then (boolean_at 1 s.operands) (λ b. then (procedure_at 0 s.operands) (λ p.
    started_if b p s)))

abbrev pub one_of : Bool → Span → Span → Span
one_of true p q = p
one_of false p q = q

-- the procedure that ifelse runs
abbrev pub chosen : Stacked → Result Span Fault
chosen s =
    then (at_least 3 s) (λ _. then (boolean_at 2 s) (λ b. then (procedure_at 1 s) (λ p. then (procedure_at 0 s) (λ q. Ok (one_of b p q)))))

abbrev pub alternative : State → Result State Fault
alternative s = then (chosen s.operands) (λ p. started_for p 3 s)

-- a loop only makes its frame, for its operands
unfoldable pub looped : (Stacked → Result Frame Fault) → ℕ → State → Result State Fault
looped read n s = then (read s.operands) (λ f. framed_for f n s)

abbrev pub for_frame : Stacked → Result Frame Fault
for_frame s =
    then (at_least 4 s) (λ _. then (integer_at 3 s) (λ i. then (integer_at 2 s) (λ j. then (integer_at 1 s) (λ l. then (procedure_at 0 s) (λ p.
    Ok (frame.For (Some i) j l p))))))

abbrev pub repeat_frame : Stacked → Result Frame Fault
repeat_frame s = then (at_least 2 s) (λ _. then (integer_at 1 s) (λ z. then (procedure_at 0 s) (λ p. then (natural z) (λ n. Ok (frame.Repeat n p)))))

abbrev pub loop_frame : Stacked → Result Frame Fault
loop_frame s = then (procedure_at 0 s) (λ p. Ok (frame.Loop p))

-- what forall goes over: an array or a string with what is left of it at first, or a dictionary with its first pair
abbrev pub over : Span → Value → Option Frame
over p value.Null = None
over p (value.Integer z) = None
over p (value.Boolean b) = None
over p value.Mark = None
over p (value.Name n) = None
over p (value.Operator o) = None
over p (value.Array a) = Some (frame.ForallArray a a p)
over p (value.String a) = Some (frame.ForallString a a p)
over p (value.Dictionary d) = Some (frame.ForallDictionary d 0 p)
over p (value.Save n) = None
over p (value.Header h) = None

abbrev pub frame_over : Span → Stacked → Result Frame Fault
frame_over p s = then (operand_at 1 s) (λ o. of_type (over p o.value))

abbrev pub forall_frame : Stacked → Result Frame Fault
forall_frame s = then (at_least 2 s) (λ _. then (procedure_at 0 s) (λ p. frame_over p s))

-- the stopped frame, and over it the procedure's, unless it is empty: both must fit
abbrev pub guarded : State → Result State Fault
guarded s =
    then (procedure_at 0 s.operands) (λ p. then (framed frame.Stopped s) (λ t. then (started p t) (λ u.
    Ok (with_operands (opened u.operands) u))))

-- a procedure's frame goes with those below it; every other frame ends an exit
abbrev pub ends_exit : Frame → Bool
ends_exit (frame.Procedure p) = false
ends_exit (frame.For i j l p) = true
ends_exit (frame.Repeat k p) = true
ends_exit (frame.Loop p) = true
ends_exit (frame.ForallArray a w p) = true
ends_exit (frame.ForallString a w p) = true
ends_exit (frame.ForallDictionary d i p) = true
ends_exit frame.Stopped = true

-- a procedure's frame goes with those below it, a loop's is the last to go, past a stopped frame nothing goes
abbrev pub leaving : Frame → ℕ → Option ℕ → Option ℕ
leaving (frame.Procedure p) n below = below
leaving (frame.For i j l p) n below = Some (n + 1)
leaving (frame.Repeat k p) n below = Some (n + 1)
leaving (frame.Loop p) n below = Some (n + 1)
leaving (frame.ForallArray a w p) n below = Some (n + 1)
leaving (frame.ForallString a w p) n below = Some (n + 1)
leaving (frame.ForallDictionary d i p) n below = Some (n + 1)
leaving frame.Stopped n below = None

-- how many frames go: down to the nearest loop, and with it; none where a stopped frame comes first
unfoldable pub down_to_loop : ℕ → List Frame → Option ℕ
down_to_loop n [] = None
down_to_loop n (f ∷ fs) = leaving f n (down_to_loop (n + 1) fs)

abbrev pub left_loop : State → Result State Fault
left_loop s = then (ok_or (down_to_loop 0 s.frames) InvalidExit) (λ n. Ok (with_frames (drop n s.frames) s))
