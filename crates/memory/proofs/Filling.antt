-- Places filled one after the other.
use Rattle.std.proofs.Common.{◌≡◌, ℕ, ◌+◌, ◌-◌, ◌<◌, true, cond, leb, Ok, Err, inl, inr, List, [], ◌∷◌, ◌++◌, length, take, drop, set, replicate, sym, ap, ◌∙◌, add-zero, arith}
use Rattle.std.proofs.lemmas.List.{append_assoc, take-append-drop, length-take-le, length-replicate, set-append_right, drop_more, replicate_more}
use Rattle.std.proofs.lemmas.Bool.{cases_Bool}
use Rattle.objects.specs.declared.fault.Fault.TheVariants.{VmError}
use Rattle.memory.specs.Memories.{InUse, Part, Lawful, filled, with_kept, with_cell, emptied, room, end_of}

module _ {A : Type 0} (xs : List A) (top : ℕ) (x : A) where
  pub filled_none : filled top 0 x xs ≡ xs
  filled_none = ap (λ n. take top xs ++ drop n xs) (add-zero top) ∙ take-append-drop top xs

  pub filled_more : (i : ℕ) → top + i < length xs → set (filled top i x xs) (top + i) x ≡ filled top (i + 1) x xs
  filled_more i h =
      let front : length (take top xs) ≡ top = length-take-le top xs (omega arith) in
      let rest = drop (top + i) xs in
      let after = drop (top + i + 1) xs in
      let one : set rest 0 x ≡ x ∷ after = ap (λ l. set l 0 x) (drop_more xs (top + i) x h) in
      let none : i - i ≡ 0 = omega arith in
      let there : set (replicate i x ++ rest) i x ≡ replicate (i + 1) x ++ after =
      set-append_right (replicate i x) rest i i x (length-replicate i x) (omega arith)
      ∙ ap (λ m. replicate i x ++ set rest m x) none
      ∙ ap (λ l. replicate i x ++ l) one
      ∙ sym (append_assoc (replicate i x) (x ∷ []) after)
      ∙ ap (λ l. l ++ after) (replicate_more i x) in
      let place : top + i - top ≡ i = omega arith in
      let sum : top + i + 1 ≡ top + (i + 1) = omega arith in
      set-append_right (take top xs) (replicate i x ++ rest) top (top + i) x front (omega arith)
      ∙ ap (λ m. take top xs ++ set (replicate i x ++ rest) m x) place
      ∙ ap (λ l. take top xs ++ l) there
      ∙ ap (λ m. take top xs ++ (replicate (i + 1) x ++ drop m xs)) sum

-- cells emptied one after the other
module _ {A : Type 0} (p : Part A) (laws : Lawful p) (m : InUse) where
  pub emptied_none : (start : ℕ) → m ≡ emptied p start 0 m
  emptied_none start = sym (ap (λ xs. with_kept (p.with_cells xs m.kept) m) (filled_none (p.cells m.kept) start p.empty) ∙ ap (λ k. with_kept k m) (laws.same m.kept))

  pub emptied_more : (start i : ℕ) → start + i < length (p.cells m.kept) → with_cell p (start + i) p.empty (emptied p start i m) ≡ emptied p start (i + 1) m
  emptied_more start i h =
      let front = filled start i p.empty (p.cells m.kept) in
      let kept = p.with_cells front m.kept in
      ap (λ xs. with_kept (p.with_cells (set xs (start + i) p.empty) kept) m) (laws.read front m.kept)
      ∙ ap (λ xs. with_kept (p.with_cells xs kept) m) (filled_more (p.cells m.kept) start p.empty i h)
      ∙ ap (λ k. with_kept k m) (laws.again _ front m.kept)

-- the end that is answered, and that there is room up to it
pub record Ends {A : Type 0} (p : Part A) (n end : ℕ) (m : InUse) : Type 0 where
  pub fits : leb (p.top m + n) (room p m) ≡ true
  pub is : end ≡ p.top m + n

pub ends : {A : Type 0} (p : Part A) (n end : ℕ) (m : InUse) → Ok end ≡ end_of p n m → Ends p n end m
ends p n end m told =
    elim (cases_Bool (leb (p.top m + n) (room p m))) [
      | inl t ↦ record { fits = t; is = (let way = ap (λ b. cond b (Ok (p.top m + n)) (Err VmError)) t in cc) }
      | inr f ↦ absurd (let way = ap (λ b. cond b (Ok (p.top m + n)) (Err VmError)) f in let z : ◌≡◌ {A = ℕ} 0 1 = cc in omega arith)
    ]
