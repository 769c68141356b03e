-- The elements of an array pushed one after the other, where they have room.
use Rattle.std.proofs.Common.{◌≡◌, ℕ, zero, suc, ◌+◌, ◌-◌, ◌<◌, ◌≤◌, cond, leb, List, [], ◌∷◌, length, drop, Ok, Err, Result, sym, refl, ap, ◌∙◌, arith, length-drop}
use Rattle.std.proofs.lemmas.Bool.{le-leb, lt-ltb}
use Rattle.std.specs.Prelude.{ok_or}
use Rattle.std.specs.List.{slice_get}
use Rattle.objects.specs.Outcomes.{after, heard}
use Rattle.objects.specs.declared.fault.Fault.{Fault}
use Rattle.objects.specs.declared.fault.Fault.TheVariants.{StackOverflow, StackUnderflow}
use Rattle.objects.specs.declared.object.Object.{Object}
use Rattle.objects.specs.declared.object.Span.{Span}
use Rattle.memory.specs.Dictionaries.{slot_in}
use Rattle.memory.specs.Memories.{InUse}
use Rattle.stacks.specs.Stacked.{Stacked, with_objects, discarded, room_in}
use Rattle.operators.specs.Operands.{then, operand_at, as_array}
use Rattle.operators.specs.States.{State, with_operands}
use Rattle.array_operators.specs.Loads.{topped, loaded, elements_on, array_loaded}

topped_room : (o : Object) (s : Stacked) → length s.objects + s.stopped < 500 → topped o s ≡ with_objects (o ∷ s.objects) s
topped_room o s h = ap (λ b. after (cond b (Ok (with_objects (o ∷ s.objects) s)) (Err StackOverflow)) s) (lt-ltb _ _ h)

loaded_room : (n at : ℕ) (m : InUse) (s : Stacked) → length s.objects + s.stopped + n ≤ 500 → loaded at n m s ≡ with_objects (elements_on at n m s.objects) s
unfolding loaded elements_on
loaded_room zero at m s h = refl
loaded_room (suc n) at m s h =
    let o = slot_in m at in
    let longer : length (o ∷ s.objects) ≡ length s.objects + 1 = omega arith in
    ap (loaded (at + 1) n m) (topped_room o s (omega arith)) ∙ loaded_room n (at + 1) m (with_objects (o ∷ s.objects) s) (omega arith)

elements_length : (n at : ℕ) (m : InUse) (os : List Object) → length (elements_on at n m os) ≡ length os + n
unfolding elements_on
elements_length zero at m os = omega arith
elements_length (suc n) at m os =
    let longer : length (slot_in m at ∷ os) ≡ length os + 1 = omega arith in
    let rest = elements_length n (at + 1) m (slot_in m at ∷ os) in
    omega arith

all_loaded : (n at : ℕ) (m : InUse) (o : Object) (s : Stacked) → length s.objects + s.stopped + n < 500 → topped o (loaded at n m s) ≡ with_objects (o ∷ elements_on at n m s.objects) s
all_loaded n at m o s h =
    let size = elements_length n at m s.objects in
    ap (topped o) (loaded_room n at m s (omega arith)) ∙ topped_room o (with_objects (elements_on at n m s.objects) s) (omega arith)

one_there : (xs : List Object) (o : Object) → Ok o ≡ then (ok_or (slice_get xs 0) StackUnderflow) Ok → 1 ≤ length xs
one_there [] o same = absurd (let z : ◌≡◌ {A = ℕ} 0 1 = cc in omega arith)
one_there (x ∷ xs) o same = omega arith

pub record Loaded (s t : State) : Type 0 where
  pub answer : Ok tt ≡ heard (array_loaded s)
  pub state : t ≡ after (array_loaded s) s

pub loads : (s : State) (o : Object) (a : Span) (l k t : Stacked) → Ok o ≡ operand_at 0 s.operands → Ok a ≡ as_array o → a.len ≤ room_in s.operands → length s.operands.objects + s.operands.stopped ≤ 500 → l ≡ discarded 1 s.operands → k ≡ loaded a.start a.len s.memory l → t ≡ topped o k → Loaded s (with_operands t s)
loads s o a l k t found span room within less elements top =
    let os = s.operands.objects in
    let final = with_objects (o ∷ elements_on a.start a.len s.memory (drop 1 os)) s.operands in
    let some = one_there os o found in
    let shorter : length (drop 1 os) ≡ length os - 1 = length-drop 1 os in
    let there : t ≡ final =
    top ∙ ap (topped o) (elements ∙ ap (loaded a.start a.len s.memory) less) ∙ all_loaded a.len a.start s.memory o (discarded 1 s.operands) (omega arith) in
    let goes : Object → Span → Result State Fault = λ x b. cond (leb b.len (room_in s.operands)) (Ok (with_operands (with_objects (x ∷ elements_on b.start b.len s.memory (drop 1 os)) s.operands) s)) (Err StackOverflow) in
    let whole : Ok (with_operands final s) ≡ array_loaded s =
    sym (ap (λ b. cond b (Ok (with_operands final s)) (Err StackOverflow)) (le-leb _ _ room))
    ∙ ap (λ x. then x (goes o)) span
    ∙ ap (λ x. then x (λ y. then (as_array y) (goes y))) found in
    record {
      answer = ap heard whole;
      state = ap (λ x. with_operands x s) there ∙ ap (λ r. after r s) whole;
    }
