-- What playing notes back depends on, and what it does not.
use Rattle.std.proofs.Common.{◌≡◌, ℕ, zero, suc, ◌+◌, ◌-◌, ◌*◌, ◌<◌, ◌≢◌, List, [], ◌∷◌, ◌++◌, length, get_or, set, sym, refl, ap, ◌∙◌, inl, inr, add-one, arith}
use Rattle.std.proofs.lemmas.List.{length-set, set-set, set_comm, length_push, get_or-set_same, get_or-set_other}
use Rattle.std.proofs.lemmas.Bool.{cases_eq}
use Rattle.objects.specs.declared.object.Object.{Object}
use Rattle.keepers.specs.declared.note.Note.{Note}
use Rattle.keepers.specs.Notes.{note_at, undone, noted_levels}

pub length_undone : (notes : List Note) (b c : ℕ) (s : List Object) → length (undone notes b c s) ≡ length s
unfolding undone
length_undone notes b zero s = refl
length_undone notes b (suc c) s = length_undone notes b c _ ∙ length-set s _ _

pub length_levels : (notes : List Note) (counts : List ℕ) (d : ℕ) (s : List Object) → length (noted_levels notes counts d s) ≡ d
unfolding noted_levels
length_levels notes counts zero s = refl
length_levels notes counts (suc d) s =
    let older = undone notes (d * length s) (get_or counts d 0) s in
    length_push (noted_levels notes counts d older) older ∙ omega (arith, length_levels notes counts d older)

-- two notes that say the same of a slot
pub record Alike (x y : Note) : Type 0 where
  pub slot : x.slot ≡ y.slot
  pub old : x.old ≡ y.old

pub undone_alike : (notes others : List Note) (b c : ℕ) (s : List Object) → ((j : ℕ) → j < c → Alike (note_at notes (b + j)) (note_at others (b + j))) → undone notes b c s ≡ undone others b c s
unfolding undone
undone_alike notes others b zero s same = refl
undone_alike notes others b (suc c) s same =
    let here = same c (omega arith) in
    let step : set s (note_at notes (b + c)).slot (note_at notes (b + c)).old ≡ set s (note_at others (b + c)).slot (note_at others (b + c)).old = rw (here.slot, here.old) refl in
    ap (undone notes b c) step ∙ undone_alike notes others b c _ (λ j h. same j (omega arith))

-- what a noted slot holds now does not matter
pub undone_noted : (notes : List Note) (b c : ℕ) (s : List Object) (i : ℕ) (o : Object) (j : ℕ) → j < c → (note_at notes (b + j)).slot ≡ i → undone notes b c (set s i o) ≡ undone notes b c s
unfolding undone
undone_noted notes b zero s i o j h e = absurd (omega arith)
undone_noted notes b (suc c) s i o j h e =
    let x = (note_at notes (b + c)).slot in
    let v = (note_at notes (b + c)).old in
    elim (cases_eq x i) [
      | inl same ↦
          let twice : set (set s i o) x v ≡ set s x v = rw same (set-set s i o v) in
          ap (undone notes b c) twice
      | inr other ↦
          let turned : i ≢ x = λ p. other (sym p) in
          let apart : j ≡ c → ⊥ = λ p. other (ap (λ m. (note_at notes (b + m)).slot) (sym p) ∙ e) in
          ap (undone notes b c) (set_comm s i x o v turned) ∙ undone_noted notes b c (set s x v) i o j (omega arith) e
    ]

-- the levels below d: their counts and notes decide
pub levels_alike : (notes others : List Note) (counts numbers : List ℕ) (n d : ℕ) (s : List Object) → length s ≡ n → ((k : ℕ) → k < d → get_or counts k 0 ≡ get_or numbers k 0) → ((k j : ℕ) → k < d → j < get_or numbers k 0 → Alike (note_at notes (k * n + j)) (note_at others (k * n + j))) → noted_levels notes counts d s ≡ noted_levels others numbers d s
unfolding noted_levels
levels_alike notes others counts numbers n zero s long count same = refl
levels_alike notes others counts numbers n (suc d) s long count same =
    let theirs = undone others (d * length s) (get_or numbers d 0) s in
    let here : undone notes (d * length s) (get_or counts d 0) s ≡ theirs = rw (long, count d (omega arith)) (undone_alike notes others (d * n) (get_or numbers d 0) s (λ j h. same d j (omega arith) h)) in
    let below : noted_levels notes counts d theirs ≡ noted_levels others numbers d theirs = levels_alike notes others counts numbers n d theirs (length_undone others _ _ s ∙ long) (λ k h. count k (omega arith)) (λ k j h i. same k j (omega arith) i) in
    ap (λ older. noted_levels notes counts d older ++ older ∷ []) here ∙ ap (λ l. l ++ theirs ∷ []) below

-- the newest level plays back to the same slots, and those below are alike
pub levels_newest : (notes others : List Note) (counts numbers : List ℕ) (n d : ℕ) (s t : List Object) → length s ≡ n → length t ≡ n → undone notes (d * n) (get_or counts d 0) s ≡ undone others (d * n) (get_or numbers d 0) t → ((k : ℕ) → k < d → get_or counts k 0 ≡ get_or numbers k 0) → ((k j : ℕ) → k < d → j < get_or numbers k 0 → Alike (note_at notes (k * n + j)) (note_at others (k * n + j))) → noted_levels notes counts (suc d) s ≡ noted_levels others numbers (suc d) t
unfolding noted_levels
levels_newest notes others counts numbers n d s t long length-t newest count same =
    let theirs = undone others (d * length t) (get_or numbers d 0) t in
    let here : undone notes (d * length s) (get_or counts d 0) s ≡ theirs = rw (long, length-t) newest in
    let below : noted_levels notes counts d theirs ≡ noted_levels others numbers d theirs = levels_alike notes others counts numbers n d theirs (length_undone others _ _ t ∙ length-t) count same in
    ap (λ older. noted_levels notes counts d older ++ older ∷ []) here ∙ ap (λ l. l ++ theirs ∷ []) below

-- the newest note played, the others are left
pub undone_newest : (notes : List Note) (b j : ℕ) (s : List Object) → 0 < j → undone notes b (j - 1) (set s (note_at notes (b + (j - 1))).slot (note_at notes (b + (j - 1))).old) ≡ undone notes b j s
unfolding undone
undone_newest notes b j s h =
    let e : suc (j - 1) ≡ j = omega arith in
    ap (λ m. undone notes b m s) e

pub undone_none : (notes : List Note) (b j : ℕ) (s : List Object) → j ≡ 0 → undone notes b j s ≡ s
unfolding undone
undone_none notes b j s e = ap (λ m. undone notes b m s) e

-- a level that was just opened has no note: it is the present slots
pub levels_open : (notes : List Note) (counts : List ℕ) (d : ℕ) (s : List Object) → d < length counts → noted_levels notes (set counts d 0) (d + 1) s ≡ noted_levels notes counts d s ++ s ∷ []
unfolding noted_levels
levels_open notes counts d s few =
    let numbers = set counts d 0 in
    let none : undone notes (d * length s) (get_or numbers d 0) s ≡ s = undone_none notes _ _ s (get_or-set_same counts d 0 0 few) in
    let below : noted_levels notes numbers d s ≡ noted_levels notes counts d s = levels_alike notes notes numbers counts (length s) d s refl (λ k h. get_or-set_other counts d k 0 0 (λ e. omega arith)) (λ _ _ _ _. record { slot = refl; old = refl }) in
    ap (λ m. noted_levels notes numbers m s) (add-one d) ∙ ap (λ older. noted_levels notes numbers d older ++ older ∷ []) none ∙ ap (λ l. l ++ s ∷ []) below

-- the newest level played back: it and those below it are the levels that there were
pub levels_back : (notes : List Note) (counts : List ℕ) (m : ℕ) (s r : List Object) → 0 < m → r ≡ undone notes ((m - 1) * length s) (get_or counts (m - 1) 0) s → noted_levels notes counts (m - 1) r ++ r ∷ [] ≡ noted_levels notes counts m s
unfolding noted_levels
levels_back notes counts m s r h e =
    let one : suc (m - 1) ≡ m = omega arith in
    ap (λ older. noted_levels notes counts (m - 1) older ++ older ∷ []) e ∙ ap (λ k. noted_levels notes counts k s) one
