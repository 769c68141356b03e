-- A dictionary just made has no entry and the room asked for.
use Rattle.std.proofs.Common.{◌≡◌, ℕ, ◌+◌, ◌*◌, ◌≤◌, Bool, cond, leb, List, ◌++◌, length, take, drop, replicate, None, Ok, Err, Result, sym, refl, ap, ◌∙◌, subst, inl, inr, arith}
use Rattle.std.proofs.lemmas.List.{length-append, length-take-le, length-replicate, length-drop, length-set, get_or-set_same, get_or-set_other}
use Rattle.std.proofs.lemmas.Bool.{leb-true, cases_Bool}
use Rattle.objects.specs.Outcomes.{after, answered}
use Rattle.objects.specs.declared.fault.Fault.{Fault}
use Rattle.objects.specs.declared.fault.Fault.TheVariants.{VmError}
use Rattle.objects.specs.declared.object.Value.TheVariants as value
use Rattle.keepers.specs.Kept.{blank}
use Rattle.memory.specs.Dictionaries.{slot_in, header_of, header_in, header_object, first_pair, with_header, dictionary_made}
use Rattle.memory.specs.Memories.{InUse, filled, with_slot, with_slot_top, slots, emptied, room}
use Rattle.memory.specs.Pairs.{MadeAt, Made}
use Rattle.memory.specs.declared.key.Key.{Key}
use Rattle.memory.proofs.Taken.{filled_below}

filled_long : {A : Type 0} (xs : List A) (top n : ℕ) (x : A) → top + n ≤ length xs → length (filled top n x xs) ≡ length xs
filled_long xs top n x room =
    let all = length-append (take top xs) (replicate n x ++ drop (top + n) xs) in
    let rest = length-append (replicate n x) (drop (top + n) xs) in
    let a = length-take-le top xs (omega arith) in
    let b = length-replicate n x in
    let c = length-drop (top + n) xs in
    omega arith

no_pairs : (m : InUse) (d : ℕ) (k : Key) → first_pair m d k 0 0 ≡ None
unfolding first_pair
no_pairs m d k = refl

module _ (n : ℕ) (m : InUse) (fits : m.slot_top + (1 + 2 * n) ≤ length m.kept.slots) where
  abbrev mid : InUse
  mid = with_slot_top (m.slot_top + (1 + 2 * n)) (emptied slots m.slot_top (1 + 2 * n) m)

  abbrev new : InUse
  new = with_slot m.slot_top (header_object 0 n) mid

  long : length mid.kept.slots ≡ length m.kept.slots
  long = filled_long m.kept.slots m.slot_top (1 + 2 * n) blank fits

  top : slot_in new m.slot_top ≡ header_object 0 n
  top = let l = long in get_or-set_same mid.kept.slots m.slot_top (header_object 0 n) blank (omega arith)

  head : header_in new m.slot_top ≡ record { count = 0; capacity = n }
  head = ap (λ s. header_of s.value) top

  made_at : MadeAt m new n m.slot_top
  made_at =
      let count = ap (λ h. h.count) head in
      let capacity = ap (λ h. h.capacity) head in
      record {
        start = refl;
        empty = record {
          none = λ k. ap (first_pair new m.slot_top k 0) count ∙ no_pairs new m.slot_top k;
          room = capacity;
          whole = record {
            header = ap (λ s. s.value) top ∙ ap value.Header (sym head);
            counted = omega arith;
            inside = let l = long in let e = length-set mid.kept.slots m.slot_top (header_object 0 n) in omega arith;
          };
        };
        older = λ i h.
            get_or-set_other mid.kept.slots m.slot_top i (header_object 0 n) blank (omega arith)
            ∙ filled_below m.kept.slots m.slot_top (1 + 2 * n) blank blank fits i h;
      }

pub made : (n : ℕ) (m new : InUse) (r : Result ℕ Fault) → new ≡ after (dictionary_made n m) m → r ≡ answered (dictionary_made n m) m.slot_top → Made m new n r
made n m end r is said =
    let way = λ (b : Bool). with_header m.slot_top n (cond b (Ok (with_slot_top (m.slot_top + (1 + 2 * n)) (emptied slots m.slot_top (1 + 2 * n) m))) (Err VmError)) in
    elim (cases_Bool (leb (m.slot_top + (1 + 2 * n)) (room slots m))) [
      | inl t ↦ (let fit = leb-true _ _ t in
          let room : m.slot_top + (1 + 2 * n) ≤ length m.kept.slots = omega arith in
          let end_is = is ∙ ap (λ b. after (way b) m) t in
          let said-is = said ∙ ap (λ b. answered (way b) m.slot_top) t in
          subst (λ x. Made m end n x) (sym said-is) (subst (λ x. MadeAt m x n m.slot_top) (sym end_is) (made_at n m room)))
      | inr f ↦ (let end_is = is ∙ ap (λ b. after (way b) m) f in
          let said-is = said ∙ ap (λ b. answered (way b) m.slot_top) f in
          subst (λ x. Made m end n x) (sym said-is) end_is)
    ]
