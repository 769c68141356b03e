use Rattle.std.proofs.Common.{◌≡◌, ℕ, List, Option, position, None, sym, ap, ◌∙◌, arith}
use Rattle.std.proofs.lemmas.Option.{slice_get_within}
use Rattle.std.specs.Prelude.{reverse}
use Rattle.operators.specs.declared.frame.Frame.{Frame}
use Rattle.control_operators.specs.Frames.{ends_exit, leaving}
use Rattle.control_operators.proofs.Leaves.{none_ends, some_ends, some_passes, not_past, loop_ends}
use Rattle.control_operators.proofs.leaving.frames_to_leave.Goals as goal

found : (low all : List Frame) (r : Option ℕ) {i : Option ℕ} → reverse low ≡ all → r ≡ position ends_exit (reverse low) → r ≡ i → position ends_exit all ≡ i
found low all r same value was = sym (ap (position ends_exit) same) ∙ sym value ∙ was

pub returns-in_err-above-clause-value : goal.returns-in_err-above-clause-value
returns-in_err-above-clause-value c =
    c.from_residual.ensures ∙ sym (none_ends _ (found c.lowest_first.result.now _ _ c.lowest_first.ensures c.procedures_on_top.ensures.value c.in_err-above.was))

pub returns-in_err-peek-clause-value : goal.returns-in_err-peek-clause-value
returns-in_err-peek-clause-value c =
    absurd (not_past c.args.frames.now c.in_ok-above.above (found c.lowest_first.result.now _ _ c.lowest_first.ensures c.procedures_on_top.ensures.value c.in_ok-above.was) (sym c.peek.ensures ∙ c.in_err-peek.was))

pub returns-in-Stopped-clause-value : goal.returns-in-Stopped-clause-value
returns-in-Stopped-clause-value c =
    sym (some_ends c.args.frames.now c.in_ok-above.above c.in_ok-peek.field-0 (found c.lowest_first.result.now _ _ c.lowest_first.ensures c.procedures_on_top.ensures.value c.in_ok-above.was) (sym c.peek.ensures ∙ c.in_ok-peek.was)
    ∙ ap (λ f. leaving f c.in_ok-above.above None) c.in-Stopped.is)

pub returns-in_default : goal.returns-in_default
returns-in_default c =
    let place = found c.lowest_first.result.now _ _ c.lowest_first.ensures c.procedures_on_top.ensures.value c.in_ok-above.was in
    let frame = sym c.peek.ensures ∙ c.in_ok-peek.was in
    let within = slice_get_within c.args.frames.now c.in_ok-above.above c.in_ok-peek.field-0 frame in
    let ends = some_passes c.args.frames.now c.in_ok-above.above c.in_ok-peek.field-0 place frame in
    record {
      value = sym (some_ends c.args.frames.now c.in_ok-above.above c.in_ok-peek.field-0 place frame ∙ loop_ends c.in_ok-peek.field-0 c.in_ok-above.above c.in_default.not-Stopped ends);
      within = omega arith;
    }
