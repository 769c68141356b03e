-- Taking a note keeps the journal in order, and every level what it was.
use Rattle.std.proofs.Common.{◌≡◌, ℕ, suc, ◌+◌, ◌*◌, ◌<◌, ◌≤◌, true, false, ◌≢◌, ◌⊎◌, List, length, get_or, set, sym, refl, ap, ◌∙◌, subst, inl, inr, mul-le-mul_right, add-mul, one-mul, add-one, arith}
use Rattle.std.proofs.lemmas.List.{length-set, set_past, set-set, set-get_or, get_or-set_same, get_or-set_other}
use Rattle.std.proofs.lemmas.Bool.{cases_eq, cases_lt, lt-ltb, eq-eqb, ltb-true, eqb-true, and_from, and_parts, both_ways}
use Rattle.objects.specs.declared.object.Object.{Object}
use Rattle.keepers.specs.Kept.{blank}
use Rattle.keepers.specs.declared.note.Note.{Note}
use Rattle.keepers.specs.Notes.{note_at, is_noted, undone, noted_levels, with_note, with_claim}
use Rattle.keepers.proofs.Pigeons.{room_for_one}
use Rattle.keepers.proofs.Undoing.{undone_alike, undone_noted, levels_newest}

-- a record in whose place one with the same field is put: nothing of that field changes
pub same_field : {Y : Type 0} (f : Note → Y) (notes : List Note) (q r : ℕ) (x : Note) → f x ≡ f (note_at notes q) → f (note_at (set notes q x) r) ≡ f (note_at notes r)
same_field f notes q r x e =
    elim (cases_eq r q) [
      | inl here ↦
          elim (cases_lt q (length notes)) [
            | inl inside ↦ rw here (ap f (get_or-set_same notes q x _ inside) ∙ e)
            | inr outside ↦ ap (λ l. f (note_at l r)) (set_past notes q x outside)
          ]
      | inr there ↦ ap f (get_or-set_other notes q r x _ there)
    ]

-- places in rows of n: the row and the place in it are told by the whole
row_below : (n k t x y : ℕ) → x < n → k < t → k * n + x < t * n + y
row_below n k t x y a h =
    let more : (k + 1) * n ≤ t * n = mul-le-mul_right n (omega arith) in
    omega (arith, add-mul k 1 n, one-mul n)

pub same_row : (n k t x y : ℕ) → x < n → y < n → k * n + x ≡ t * n + y → k ≡ t
same_row n k t x y a b e =
    elim (cases_lt k t) [
      | inl h ↦ absurd (let z = row_below n k t x y a h in omega arith)
      | inr h ↦
          elim (cases_lt t k) [
            | inl i ↦ absurd (let z = row_below n t k y x b i in omega arith)
            | inr i ↦ omega arith
          ]
    ]

pub same_column : (n k t x y : ℕ) → x < n → y < n → k * n + x ≡ t * n + y → x ≡ y
same_column n k t x y a b e =
    let r : k * n ≡ t * n = ap (λ z. z * n) (same_row n k t x y a b e) in
    omega arith

-- the journal's order: what its ghost fields say of the d open levels over n slots
pub record Sound (notes : List Note) (counts : List ℕ) (n d : ℕ) : Type 0 where
  pub counted : (k : ℕ) → k < d → get_or counts k 0 ≤ n
  pub named : (k j : ℕ) → (k < d) × (j < get_or counts k 0) → (note_at notes (k * n + j)).slot < n
  pub claimed : (k j : ℕ) → (k < d) × (j < get_or counts k 0) → (note_at notes (k * n + (note_at notes (k * n + j)).slot)).at ≡ j

-- the newest of the levels is t
module _ (notes : List Note) (counts : List ℕ) (n d t i : ℕ) (sound : Sound notes counts n d) (newest : suc t ≡ d) (inside : i < n) where
  -- a slot that no note of the newest level names
  unnamed_unless : is_noted notes (t * n) (get_or counts t 0) i ≡ false → (j : ℕ) → j < get_or counts t 0 → (note_at notes (t * n + j)).slot ≡ i → ⊥
  unnamed_unless free j h e =
      let says : (note_at notes (t * n + i)).at ≡ j = subst (λ s. (note_at notes (t * n + s)).at ≡ j) e (sound.claimed t j (omega arith, h)) in
      let names : (note_at notes (t * n + (note_at notes (t * n + i)).at)).slot ≡ i = subst (λ (m : ℕ). (note_at notes (t * n + m)).slot ≡ i) (sym says) e in
      both_ways (is_noted notes (t * n) (get_or counts t 0) i) free (and_from _ _ (lt-ltb _ _ (omega arith)) (eq-eqb _ _ names))

  pub claim_sound : is_noted notes (t * n) (get_or counts t 0) i ≡ false → Sound (with_claim notes (t * n + i) (get_or counts t 0)) counts n d
  claim_sound free =
      let c = get_or counts t 0 in
      let after = with_claim notes (t * n + i) c in
      let slot_same : (r : ℕ) → (note_at after r).slot ≡ (note_at notes r).slot = λ r. same_field (λ x. x.slot) notes (t * n + i) r _ refl in
      record {
        counted = sound.counted;
        named = λ k j h. subst (λ (s : ℕ). s < n) (sym (slot_same (k * n + j))) (sound.named k j h);
        claimed = λ k j h.
            let s = (note_at notes (k * n + j)).slot in
            let away : k * n + s ≢ t * n + i = λ e.
            let row : k ≡ t = same_row n k t s i (sound.named k j h) inside e in
            let column : s ≡ i = same_column n k t s i (sound.named k j h) inside e in
            unnamed_unless free j (subst (λ (m : ℕ). j < get_or counts m 0) row h.1) (subst (λ (m : ℕ). (note_at notes (m * n + j)).slot ≡ i) row column) in
            ap (λ m. (note_at after (k * n + m)).at) (slot_same (k * n + j)) ∙ ap (λ x. x.at) (get_or-set_other notes (t * n + i) (k * n + s) _ _ away) ∙ sound.claimed k j h;
      }

  -- the slot's entry claims the next note, so that no note names the slot yet
  module _ (next : (note_at notes (t * n + i)).at ≡ get_or counts t 0) where
    unnamed : (j : ℕ) → j < get_or counts t 0 → (note_at notes (t * n + j)).slot ≡ i → ⊥
    unnamed j h e =
        let says : (note_at notes (t * n + i)).at ≡ j = subst (λ s. (note_at notes (t * n + s)).at ≡ j) e (sound.claimed t j (omega arith, h)) in
        omega arith

    pub count_below : get_or counts t 0 < n
    count_below =
        room_for_one n (get_or counts t 0) (λ j. (note_at notes (t * n + j)).slot) i
        (record {
          below = λ j h. sound.named t j (omega arith, h);
          apart = λ j k h l e. sym (sound.claimed t j (omega arith, h)) ∙ ap (λ s. (note_at notes (t * n + s)).at) e ∙ sound.claimed t k (omega arith, l);
        })
        inside unnamed

    -- the counts after the note: one more in the newest level
    count_newest : t < length counts → get_or (set counts t (get_or counts t 0 + 1)) t 0 ≡ get_or counts t 0 + 1
    count_newest h = get_or-set_same counts t _ _ h

    count_other : (k : ℕ) → k ≢ t → get_or (set counts t (get_or counts t 0 + 1)) k 0 ≡ get_or counts k 0
    count_other k h = get_or-set_other counts t k _ _ h

    -- j is a note of level k after the newest level took one more: the new one, or one that it was before
    old_or_new : t < length counts → (k j : ℕ) → j < get_or (set counts t (get_or counts t 0 + 1)) k 0 → ((k ≡ t) × (j ≡ get_or counts t 0)) ⊎ ((j < get_or counts k 0) × (k ≡ t → j ≡ get_or counts t 0 → ⊥))
    old_or_new few k j h =
        elim (cases_eq k t) [
          | inl row ↦
              let b : j < get_or counts t 0 + 1 = subst (λ (m : ℕ). j < m) (ap (λ m. get_or (set counts t (get_or counts t 0 + 1)) m 0) row ∙ count_newest few) h in
              elim (cases_eq j (get_or counts t 0)) [
                | inl last ↦ inl (row, last)
                | inr other ↦ inr (subst (λ (m : ℕ). j < get_or counts m 0) (sym row) (omega arith), λ _ e. other e)
              ]
          | inr row ↦ inr (subst (λ (m : ℕ). j < m) (count_other k row) h, λ e _. row e)
        ]

    module _ (o : Object) (few : t < length counts) (room : t * n + n ≤ length notes) where
      -- the notes that were there before are as they were
      before_slot : (k j : ℕ) → k < d → j < get_or counts k 0 → (k ≡ t → j ≡ get_or counts t 0 → ⊥) → note_at (with_note notes (t * n + get_or counts t 0) i o) (k * n + j) ≡ note_at notes (k * n + j)
      before_slot k j a h other =
          let below : j < n = let b = sound.counted k a in omega arith in
          get_or-set_other notes _ (k * n + j) _ _ (λ e. other (same_row n k t j (get_or counts t 0) below count_below e) (same_column n k t j (get_or counts t 0) below count_below e))

      place_inside : t * n + get_or counts t 0 < length notes
      place_inside = let b = count_below in omega arith

      new_note : note_at (with_note notes (t * n + get_or counts t 0) i o) (t * n + get_or counts t 0) ≡ (record { slot = i; old = o; at = (note_at notes (t * n + get_or counts t 0)).at })
      new_note = get_or-set_same notes _ _ _ place_inside

      at_same : (r : ℕ) → (note_at (with_note notes (t * n + get_or counts t 0) i o) r).at ≡ (note_at notes r).at
      at_same r = same_field (λ x. x.at) notes (t * n + get_or counts t 0) r _ refl

      pub note_sound : Sound (with_note notes (t * n + get_or counts t 0) i o) (set counts t (get_or counts t 0 + 1)) n d
      note_sound =
          let after = with_note notes (t * n + get_or counts t 0) i o in
          record {
            counted = λ k h.
                elim (cases_eq k t) [
                  | inl row ↦ subst (λ (m : ℕ). m ≤ n) (sym (ap (λ m. get_or (set counts t (get_or counts t 0 + 1)) m 0) row ∙ count_newest few)) (let b = count_below in omega arith)
                  | inr row ↦ subst (λ (m : ℕ). m ≤ n) (sym (count_other k row)) (sound.counted k h)
                ];
            named = λ k j h.
                elim (old_or_new few k j h.1) [
                  | inl new ↦ subst (λ (x : ℕ). (note_at after x).slot < n) (sym (ap (λ m. m * n + j) new.0 ∙ ap (λ m. t * n + m) new.1)) (subst (λ (x : Note). x.slot < n) (sym new_note) inside)
                  | inr old ↦ subst (λ (x : Note). x.slot < n) (sym (before_slot k j h.0 old.0 old.1)) (sound.named k j (h.0, old.0))
                ];
            claimed = λ k j h.
                at_same _ ∙ elim (old_or_new few k j h.1) [
                  | inl new ↦
                      let place : k * n + j ≡ t * n + get_or counts t 0 = ap (λ m. m * n + j) new.0 ∙ ap (λ m. t * n + m) new.1 in
                      let names : (note_at after (k * n + j)).slot ≡ i = ap (λ p. (note_at after p).slot) place ∙ ap (λ x. x.slot) new_note in
                      ap (λ s. (note_at notes (k * n + s)).at) names ∙ ap (λ m. (note_at notes (m * n + i)).at) new.0 ∙ next ∙ sym new.1
                  | inr old ↦
                      ap (λ x. (note_at notes (k * n + x.slot)).at) (before_slot k j h.0 old.0 old.1) ∙ sound.claimed k j (h.0, old.0)
                ];
          }

    -- what the slot held is the object that the note has: whatever is written there, the levels stay
    module _ (few : t < length counts) (room : t * n + n ≤ length notes) (s : List Object) (long : length s ≡ n) (w : Object) where
      newest_same : undone (with_note notes (t * n + get_or counts t 0) i (get_or s i blank)) (t * n) (get_or (set counts t (get_or counts t 0 + 1)) t 0) (set s i w) ≡ undone notes (t * n) (get_or counts t 0) s
      unfolding undone
      newest_same =
          let o = get_or s i blank in
          let c = get_or counts t 0 in
          let after = with_note notes (t * n + c) i o in
          let new = new_note o few room in
          let one : get_or (set counts t (c + 1)) t 0 ≡ suc c = count_newest few ∙ add-one c in
          let back : set (set s i w) (note_at after (t * n + c)).slot (note_at after (t * n + c)).old ≡ s = ap (λ x. set (set s i w) x.slot x.old) new ∙ set-set s i w o ∙ set-get_or s i blank in
          ap (λ m. undone after (t * n) m (set s i w)) one ∙ ap (undone after (t * n) c) back
          ∙ undone_alike after notes (t * n) c s (λ j h.
          let e = before_slot o few room t j (omega arith) h (λ _ x. omega arith) in
          record { slot = ap (λ x. x.slot) e; old = ap (λ x. x.old) e })

      pub note_levels : noted_levels (with_note notes (t * n + get_or counts t 0) i (get_or s i blank)) (set counts t (get_or counts t 0 + 1)) d (set s i w) ≡ noted_levels notes counts d s
      note_levels =
          let o = get_or s i blank in
          let after = with_note notes (t * n + get_or counts t 0) i o in
          let numbers = set counts t (get_or counts t 0 + 1) in
          subst (λ (m : ℕ). noted_levels after numbers m (set s i w) ≡ noted_levels notes counts m s) newest
          (levels_newest after notes numbers counts n t (set s i w) s (length-set s i w ∙ long) long newest_same (λ k h. count_other k (λ e. omega arith)) (λ k j h l.
          let e = before_slot o few room k j (omega arith) l (λ x _. omega arith) in
          record { slot = ap (λ x. x.slot) e; old = ap (λ x. x.old) e }))

-- with no level open, nothing depends on the slots
pub no_levels : (notes : List Note) (counts : List ℕ) (d : ℕ) (s r : List Object) → d ≡ 0 → noted_levels notes counts d s ≡ noted_levels notes counts d r
unfolding noted_levels
no_levels notes counts d s r e = subst (λ (m : ℕ). noted_levels notes counts m s ≡ noted_levels notes counts m r) (sym e) refl

-- a slot that the newest level has noted may change as it will
pub noted_same : (notes : List Note) (counts : List ℕ) (d t i : ℕ) (s : List Object) (w : Object) → suc t ≡ d → is_noted notes (t * length s) (get_or counts t 0) i ≡ true → noted_levels notes counts d (set s i w) ≡ noted_levels notes counts d s
noted_same notes counts d t i s w newest told =
    let n = length s in
    let parts = and_parts _ _ told in
    let claim = (note_at notes (t * n + i)).at in
    let one : undone notes (t * n) (get_or counts t 0) (set s i w) ≡ undone notes (t * n) (get_or counts t 0) s = undone_noted notes (t * n) (get_or counts t 0) s i w claim (ltb-true _ _ parts.0) (eqb-true _ _ parts.1) in
    subst (λ (m : ℕ). noted_levels notes counts m (set s i w) ≡ noted_levels notes counts m s) newest
    (levels_newest notes notes counts counts n t (set s i w) s (length-set s i w) refl one (λ _ _. refl) (λ _ _ _ _. record { slot = refl; old = refl }))

-- a level that was just opened has no note
pub open_sound : (notes : List Note) (counts : List ℕ) (n d : ℕ) → d < length counts → Sound notes counts n d → Sound notes (set counts d 0) n (d + 1)
open_sound notes counts n d few sound =
    let kept : (k : ℕ) → k ≢ d → get_or (set counts d 0) k 0 ≡ get_or counts k 0 = λ k h. get_or-set_other counts d k 0 0 h in
    let none : (k j : ℕ) → k ≡ d → j < get_or (set counts d 0) k 0 → ⊥ = λ k j e h.
    let zero : get_or (set counts d 0) k 0 ≡ 0 = ap (λ m. get_or (set counts d 0) m 0) e ∙ get_or-set_same counts d 0 0 few in
    omega arith in
    let older : (k j : ℕ) → (k < d + 1) × (j < get_or (set counts d 0) k 0) → (k < d) × (j < get_or counts k 0) = λ k j h.
    let other : k ≢ d = λ e. none k j e h.1 in
    let a = h.0 in
    (omega arith, subst (λ (m : ℕ). j < m) (kept k other) h.1) in
    record {
      counted = λ k h.
          elim (cases_eq k d) [
            | inl e ↦ subst (λ (m : ℕ). m ≤ n) (sym (ap (λ m. get_or (set counts d 0) m 0) e ∙ get_or-set_same counts d 0 0 few)) (omega arith)
            | inr other ↦ subst (λ (m : ℕ). m ≤ n) (sym (kept k other)) (sound.counted k (omega arith))
          ];
      named = λ k j h. sound.named k j (older k j h);
      claimed = λ k j h. sound.claimed k j (older k j h);
    }
