use Rattle.std.proofs.Common.{◌≡◌, ◌-◌, sym, ap, ◌∙◌, inl, inr, arith}
use Rattle.std.specs.List.{slice_get}
use Rattle.memory.specs.Memories.{with_slot}
use Rattle.array_operators.specs.Stores.{or_blank, stored}
use Rattle.array_operators.proofs.Stores.{stored_step, stored_none}
use Rattle.array_operators.proofs.store.store_operands.Goals as goal

pub loop-at-preserved : goal.loop-at-preserved
loop-at-preserved g c =
    let place = c.in-Some.ensures.steps.0 in
    let left = c.in-Some.ensures.steps.1 in
    let before = c.loop-at.invariant in
    let m = c.loop-at.memory in
    let os = c.args.operands.now.objects in
    let one : c.set_slot.new.self ≡ with_slot c.loop-at.at-iterator.a.start (or_blank (slice_get os c.in-Some.from_top)) m =
    let at = place.1.1 in
    let read = c.peek.ensures in
    let or = c.unwrap_or-object.ensures in
    let wrote = c.set_slot.ensures in
    cc in
    record {
      slots =
          ap (λ e. stored c.from-above.result c.next.new.self.a.start (e - c.next.new.self.a.start) os c.set_slot.new.self) place.0
          ∙ stored_step c.from-above.result c.loop-at.at-iterator.a.start c.loop-at.at-iterator.a.end c.next.new.self.a.start c.in-Some.from_top os m c.set_slot.new.self
          (omega arith) place.1.2 (omega arith) one
          ∙ before.slots;
      lowest = left.0 ∙ before.lowest;
      ordered = omega arith;
      as_many = omega arith;
    }

pub returns : goal.returns
returns g c =
    let none : c.loop-at.at-iterator.a.end - c.loop-at.at-iterator.a.start ≡ 0 =
    elim c.in-None.ensures.steps [ inl x ↦ omega arith | inr y ↦ omega arith ] in
    let same : stored c.from-above.result c.from-start.result c.from-len.result c.args.operands.now.objects c.args.memory.now
    ≡ stored c.args.above c.args.span.start c.args.span.len c.args.operands.now.objects c.args.memory.now =
    let a = c.from-above.ensures in
    let b = c.from-start.ensures in
    let d = c.from-len.ensures in
    cc in
    sym (stored_none _ _ _ _ _ none) ∙ c.loop-at.invariant.slots ∙ same
