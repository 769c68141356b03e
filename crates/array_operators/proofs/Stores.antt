-- Storing and loading, one element after the other.
use Rattle.std.proofs.Common.{◌≡◌, ℕ, suc, ◌+◌, ◌-◌, ◌<◌, ◌≤◌, List, sym, ap, ◌∙◌, arith}
use Rattle.std.specs.List.{slice_get}
use Rattle.objects.specs.declared.object.Object.{Object}
use Rattle.memory.specs.Dictionaries.{slot_in}
use Rattle.memory.specs.Memories.{InUse, with_slot}
use Rattle.stacks.specs.Stacked.{Stacked}
use Rattle.array_operators.specs.Stores.{or_blank, stored}
use Rattle.array_operators.specs.Loads.{topped, loaded}

-- those left to store are one and the others
pub stored_step : (above at end next left : ℕ) (os : List Object) (m n : InUse) → at < end → next ≡ at + 1 → left ≡ above + (end - next) → n ≡ with_slot at (or_blank (slice_get os left)) m → stored above next (end - next) os n ≡ stored above at (end - at) os m
unfolding stored
stored_step above at end next left os m n some after place one =
    let more : end - at ≡ suc (end - (at + 1)) = omega arith in
    ap (stored above next (end - next) os) (one ∙ ap (λ k. with_slot at (or_blank (slice_get os k)) m) place)
    ∙ ap (λ k. stored above k (end - k) os (with_slot at (or_blank (slice_get os (above + (end - k)))) m)) after
    ∙ sym (ap (λ k. stored above at k os m) more)

pub stored_none : (above at left : ℕ) (os : List Object) (m : InUse) → left ≡ 0 → stored above at left os m ≡ m
unfolding stored
stored_none above at left os m none = ap (λ k. stored above at k os m) none

-- those left to load are one and the others
pub loaded_step : (at end : ℕ) (m : InUse) (s t : Stacked) → at < end → t ≡ topped (slot_in m at) s → loaded (at + 1) (end - (at + 1)) m t ≡ loaded at (end - at) m s
unfolding loaded
loaded_step at end m s t some one =
    let more : end - at ≡ suc (end - (at + 1)) = omega arith in
    ap (loaded (at + 1) (end - (at + 1)) m) one ∙ sym (ap (λ k. loaded at k m s) more)

pub loaded_none : (at end : ℕ) (m : InUse) (s : Stacked) → end ≤ at → loaded at (end - at) m s ≡ s
unfolding loaded
loaded_none at end m s none =
    let zero : end - at ≡ 0 = omega arith in
    ap (λ k. loaded at k m s) zero
