-- What a place reads after a stretch was filled, and so after memory was taken.
use Rattle.std.proofs.Common.{◌≡◌, ℕ, ◌+◌, ◌-◌, ◌<◌, ◌≤◌, true, leb, List, length, get_or, take, replicate, Ok, Err, sym, refl, ap, ◌∙◌, subst, arith}
use Rattle.std.proofs.lemmas.List.{length-take-le, length-replicate, get_or_append_left, get_or-append_right, get_or-take, get_or-drop, get_or-replicate}
use Rattle.std.proofs.lemmas.Bool.{leb-true, cond_both}
use Rattle.objects.specs.Outcomes.{after}
use Rattle.objects.specs.declared.fault.Fault.TheVariants.{VmError}
use Rattle.memory.specs.Memories.{InUse, Part, Lawful, filled, emptied, room, taken}
use Rattle.memory.specs.Taken.{Taken}

module _ {A : Type 0} (xs : List A) (top n : ℕ) (x d : A) (room : top + n ≤ length xs) where
  front : length (take top xs) ≡ top
  front = length-take-le top xs (omega arith)

  pub filled_below : (i : ℕ) → i < top → get_or (filled top n x xs) i d ≡ get_or xs i d
  filled_below i h =
      let f = front in
      get_or_append_left (take top xs) _ d i (omega arith) ∙ get_or-take top xs i d h

  pub filled_here : (i : ℕ) → top ≤ i → i < top + n → get_or (filled top n x xs) i d ≡ x
  filled_here i low high =
      let many = length-replicate n x in
      get_or-append_right (take top xs) _ top i d front low
      ∙ get_or_append_left (replicate n x) _ d (i - top) (omega arith)
      ∙ get_or-replicate n (i - top) x d (omega arith)

  pub filled_past : (i : ℕ) → top + n ≤ i → get_or (filled top n x xs) i d ≡ get_or xs i d
  filled_past i h =
      let place : top + n + (i - top - n) ≡ i = omega arith in
      get_or-append_right (take top xs) _ top i d front (omega arith)
      ∙ get_or-append_right (replicate n x) _ n (i - top) d (length-replicate n x) (omega arith)
      ∙ get_or-drop (top + n) xs (i - top - n) d
      ∙ ap (λ k. get_or xs k d) place

module _ {A : Type 0} (p : Part A) (laws : Lawful p) where
  kept : (m : InUse) → Taken p m m
  kept m = record {
    rises = omega arith;
    older = λ i h. refl;
    taken = λ i low high. absurd (omega arith);
    free = λ i h. refl;
    rest = laws.same m.kept;
  }

  above : (n : ℕ) (m : InUse) → leb (p.top m + n) (room p m) ≡ true → Taken p m (p.with_top (p.top m + n) (emptied p (p.top m) n m))
  above n m told =
      let fit = leb-true _ _ told in
      let xs = p.cells m.kept in
      let fits : p.top m + n ≤ length xs = omega arith in
      let new = p.with_top (p.top m + n) (emptied p (p.top m) n m) in
      let end : p.top new ≡ p.top m + n = laws.topped _ _ in
      let all = laws.kept_topped (p.top m + n) (emptied p (p.top m) n m) in
      let cells : p.cells new.kept ≡ filled (p.top m) n p.empty xs = ap p.cells all ∙ laws.read _ _ in
      record {
        rises = omega arith;
        older = λ i h. ap (λ l. get_or l i p.empty) cells ∙ filled_below xs (p.top m) n p.empty p.empty fits i h;
        taken = λ i low high. ap (λ l. get_or l i p.empty) cells ∙ filled_here xs (p.top m) n p.empty p.empty fits i low (omega arith);
        free = λ i high. ap (λ l. get_or l i p.empty) cells ∙ filled_past xs (p.top m) n p.empty p.empty fits i (omega arith);
        rest = ap (p.with_cells xs) all ∙ laws.again xs _ m.kept ∙ laws.same m.kept;
      }

  pub taken_above : (n : ℕ) (m new : InUse) → new ≡ after (taken p n m) m → Taken p m new
  taken_above n m new is =
      subst (λ k. Taken p m k) (sym is)
      (cond_both (leb (p.top m + n) (room p m)) (Ok (p.with_top (p.top m + n) (emptied p (p.top m) n m))) (Err VmError) (λ r. Taken p m (after r m))
      (above n m) (λ _. kept m))
