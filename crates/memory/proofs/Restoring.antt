-- Saves found by their numbers, made, and gone back to.
use Rattle.std.proofs.Common.{◌≡◌, ℕ, ◌<◌, ◌≤◌, Bool, true, false, cond, ◌&&◌, eqb, ltb, ◌⊎◌, List, [], ◌∷◌, ◌++◌, length, get_or, take, Some, None, Ok, Err, Result, sym, refl, ap, ◌∙◌, subst, inl, inr, arith}
use Rattle.std.proofs.lemmas.List.{append_assoc, take_at, get_or_at, get_or_append_left, length-append}
use Rattle.std.proofs.lemmas.List.Quantifiers.{position-Some}
use Rattle.std.proofs.lemmas.List.Sums.{position_or_len_is, fails_before_first}
use Rattle.std.specs.List.{position_or_len}
use Rattle.std.proofs.lemmas.Bool.{eqb-true, eqb-false, eq-eqb, ne_eqb, ltb-true, ltb-false, lt-ltb, and_parts, and_cases, cases_Bool}
use Rattle.objects.specs.Outcomes.{after, heard, answered}
use Rattle.objects.specs.declared.fault.Fault.{Fault}
use Rattle.objects.specs.declared.fault.Fault.TheVariants.{LimitCheck, InvalidRestore}
use Rattle.keepers.specs.Kept.{Kept, with_slots, with_levels, open_level}
use Rattle.memory.specs.Memories.{InUse}
use Rattle.memory.specs.Saves.{OpenAt, NoneOpen, ComesBack, Grown, SaveMade, Saving, WentBack, GoingBack}
use Rattle.memory.specs.Saving.{next_number, recorded, if_opened, save_made, save_place, no_save, returned, if_back, if_open, back_to_save}
use Rattle.memory.specs.declared.saves.Saved.{Saved}
use Rattle.memory.proofs.Looking.{cases_option}

module _ (n : ℕ) where
  abbrev numbered : Saved → Bool
  numbered s = eqb s.number n

  pub none_open : (ss : List Saved) → save_place n ss ≡ None → NoneOpen n ss
  none_open ss e j h =
      elim (cases_Bool (ltb (position_or_len numbered ss) (length ss))) [
        | inl t ↦ absurd (let u = ap (λ b. cond b (Some (position_or_len numbered ss)) None) t in let z : ◌≡◌ {A = ℕ} 0 1 = cc in omega arith)
        | inr f ↦ eqb-false (get_or ss j no_save).number n (fails_before_first numbered ss j no_save (let past = ltb-false _ _ f in omega arith))
      ]

  -- a save behind others without its number is found there, whatever follows
  pub found_behind : (ss : List Saved) (s : Saved) (rest : List Saved) → NoneOpen n ss → s.number ≡ n → save_place n (ss ++ s ∷ rest) ≡ Some (length ss)
  found_behind ss s rest none here =
      let all = length-append ss (s ∷ rest) in
      let first = position_or_len_is numbered (ss ++ s ∷ rest) (length ss) no_save (omega arith)
      (λ k h. ap numbered (get_or_append_left ss (s ∷ rest) no_save k h) ∙ ne_eqb _ _ (none k h))
      (λ _. ap numbered (get_or_at ss s rest no_save (length ss) refl) ∙ eq-eqb s.number n here) in
      rw first (rw (lt-ltb (length ss) (length (ss ++ s ∷ rest)) (omega arith)) refl)

  pub open_at : (ss : List Saved) (i : ℕ) → save_place n ss ≡ Some i → OpenAt n ss i
  open_at ss i e =
      let at = position-Some numbered ss i no_save e in
      record { inside = at.0; numbered = eqb-true _ _ at.1; first = λ j h. eqb-false _ _ (at.2 j h) }

-- gone back, or refused
module _ (n : ℕ) (m new : InUse) where
  goes_back : (i : ℕ) → save_place n m.saves ≡ Some i → i < length m.kept.levels → new ≡ returned m i (with_slots (get_or m.kept.levels i []) (with_levels (take i m.kept.levels) m.kept)) → WentBack m new n
  goes_back i at level is = record {
    place = i;
    named = open_at n m.saves i at;
    open_level = level;
    saves = ap (λ x. x.saves) is;
    slot_top = ap (λ x. x.slot_top) is;
    byte_top = ap (λ x. x.byte_top) is;
    slots = ap (λ x. x.kept.slots) is;
    levels = ap (λ x. x.kept.levels) is;
    bytes = ap (λ x. x.kept.bytes) is;
    made = ap (λ x. x.made) is;
  }

  pub going_back : (r : Result (Unit {0}) Fault) → new ≡ after (back_to_save n m) m → r ≡ heard (back_to_save n m) → GoingBack m new n r
  going_back r is said =
      elim (cases_option (save_place n m.saves)) [
        | inl none ↦ (let same = is ∙ ap (λ p. after (if_open m p) m) none in
            let told = said ∙ ap (λ p. heard (if_open m p)) none in
            subst (λ x. GoingBack m new n x) (sym told) (record { fault = refl; same = same; closed = inl (none_open n m.saves none) }))
        | inr some ↦ (let i = some.0 in
            let at = is ∙ ap (λ p. after (if_open m p) m) some.1 in
            let told = said ∙ ap (λ p. heard (if_open m p)) some.1 in
            let way = λ (b : Bool). if_back m i (cond b (Ok (with_slots (get_or m.kept.levels i []) (with_levels (take i m.kept.levels) m.kept))) (Err InvalidRestore)) in
            elim (cases_Bool (ltb i (length m.kept.levels))) [
              | inl t ↦ subst (λ x. GoingBack m new n x) (sym (told ∙ ap (λ b. heard (way b)) t)) (goes_back i some.1 (ltb-true _ _ t) (at ∙ ap (λ b. after (way b) m) t))
              | inr f ↦ subst (λ x. GoingBack m new n x) (sym (told ∙ ap (λ b. heard (way b)) f)) (record {
                fault = refl;
                same = at ∙ ap (λ b. after (way b) m) f;
                closed = inr (i, (open_at n m.saves i some.1, ltb-false _ _ f));
              })
            ])
      ]

-- the way back to a save that is still open
module _ (m new later : InUse) (n : ℕ) (newest : new.saves ≡ m.saves ++ (record { number = n; slot_top = m.slot_top; byte_top = m.byte_top }) ∷ []) (level : new.kept.levels ≡ m.kept.levels ++ m.kept.slots ∷ []) (even : length m.kept.levels ≡ length m.saves) (none : NoneOpen n m.saves) (grown : Grown new later) where
  abbrev this : Saved
  this = record { number = n; slot_top = m.slot_top; byte_top = m.byte_top }

  abbrev i : ℕ
  i = length m.saves

  saves_on : later.saves ≡ m.saves ++ this ∷ grown.more
  saves_on = grown.saves ∙ ap (λ l. l ++ grown.more) newest ∙ append_assoc m.saves (this ∷ []) grown.more

  levels_on : later.kept.levels ≡ m.kept.levels ++ m.kept.slots ∷ grown.inner
  levels_on = grown.levels ∙ ap (λ l. l ++ grown.inner) level ∙ append_assoc m.kept.levels (m.kept.slots ∷ []) grown.inner

  abbrev back : Kept
  back = with_slots (get_or later.kept.levels i []) (with_levels (take i later.kept.levels) later.kept)

  there : save_place n later.saves ≡ Some i
  there = ap (save_place n) saves_on ∙ found_behind n m.saves this grown.more none refl

  deep : i < length later.kept.levels
  deep =
      let all = ap length levels_on in
      let parts = length-append m.kept.levels (m.kept.slots ∷ grown.inner) in
      omega arith

  leads : back_to_save n later ≡ Ok (returned later i back)
  leads = ap (if_open later) there ∙ ap (λ b. if_back later i (cond b (Ok back) (Err InvalidRestore))) (lt-ltb _ _ deep)

  record_there : get_or later.saves i no_save ≡ this
  record_there = ap (λ l. get_or l i no_save) saves_on ∙ get_or_at m.saves this grown.more no_save i refl

  pub comes_back : ComesBack m later n
  comes_back = record {
    accepted = ap (λ r. heard r) leads;
    slots = ap (λ r. (after r later).kept.slots) leads ∙ ap (λ l. get_or l i []) levels_on ∙ get_or_at m.kept.levels m.kept.slots grown.inner [] i even;
    levels = ap (λ r. (after r later).kept.levels) leads ∙ ap (take i) levels_on ∙ take_at m.kept.levels (m.kept.slots ∷ grown.inner) i even;
    bytes = ap (λ r. (after r later).kept.bytes) leads;
    slot_top = ap (λ r. (after r later).slot_top) leads ∙ ap (λ s. s.slot_top) record_there;
    byte_top = ap (λ r. (after r later).byte_top) leads ∙ ap (λ s. s.byte_top) record_there;
    saves = ap (λ r. (after r later).saves) leads ∙ ap (take i) saves_on ∙ take_at m.saves (this ∷ grown.more) i refl;
  }

-- a save made, or refused
module _ (m new : InUse) where
  makes : ltb m.made 65535 && ltb (length m.saves) 15 ≡ true → length m.kept.levels < m.kept.limit → new ≡ recorded m (with_levels (m.kept.levels ++ m.kept.slots ∷ []) m.kept) → SaveMade m new (next_number m)
  makes few deep is =
      let both = and_parts (ltb m.made 65535) (ltb (length m.saves) 15) few in
      let newest = ap (λ x. x.saves) is in
      let level = ap (λ x. x.kept.levels) is in
      record {
        number = refl;
        made = ap (λ x. x.made) is;
        newest = newest;
        level = level;
        slots = ap (λ x. x.kept.slots) is;
        bytes = ap (λ x. x.kept.bytes) is;
        slot_top = ap (λ x. x.slot_top) is;
        byte_top = ap (λ x. x.byte_top) is;
        numbers_left = ltb-true _ _ both.0;
        saves_left = ltb-true _ _ both.1;
        levels_left = deep;
        comes_back = λ even none later grown. comes_back m new later (next_number m) newest level even none grown;
      }

  reached_one : ltb m.made 65535 && ltb (length m.saves) 15 ≡ false → (65535 ≤ m.made) ⊎ ((15 ≤ length m.saves) ⊎ (m.kept.limit ≤ length m.kept.levels))
  reached_one f =
      elim (and_cases (ltb m.made 65535) (ltb (length m.saves) 15) f) [ inl a ↦ inl (ltb-false _ _ a) | inr b ↦ inr (inl (ltb-false _ _ b)) ]

  pub saving : (r : Result ℕ Fault) → new ≡ after (save_made m) m → r ≡ answered (save_made m) (next_number m) → Saving m new r
  saving r is said =
      let k = m.kept in
      let way = λ (b : Bool). cond b (if_opened m (open_level k)) (Err LimitCheck) in
      let opened = λ (b : Bool). if_opened m (cond b (Ok (with_levels (k.levels ++ k.slots ∷ []) k)) (Err LimitCheck)) in
      elim (cases_Bool (ltb m.made 65535 && ltb (length m.saves) 15)) [
        | inl few ↦ (let at = is ∙ ap (λ b. after (way b) m) few in
            let told = said ∙ ap (λ b. answered (way b) (next_number m)) few in
            elim (cases_Bool (ltb (length k.levels) k.limit)) [
              | inl t ↦ subst (λ x. Saving m new x) (sym (told ∙ ap (λ b. answered (opened b) (next_number m)) t)) (makes few (ltb-true _ _ t) (at ∙ ap (λ b. after (opened b) m) t))
              | inr f ↦ subst (λ x. Saving m new x) (sym (told ∙ ap (λ b. answered (opened b) (next_number m)) f)) (record {
                fault = refl;
                same = at ∙ ap (λ b. after (opened b) m) f;
                reached = inr (inr (ltb-false _ _ f));
              })
            ])
        | inr many ↦ subst (λ x. Saving m new x) (sym (said ∙ ap (λ b. answered (way b) (next_number m)) many)) (record {
          fault = refl;
          same = is ∙ ap (λ b. after (way b) m) many;
          reached = reached_one many;
        })
      ]
