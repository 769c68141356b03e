-- A key defined: in its place, or behind the last pair.
use Rattle.std.proofs.Common.{◌≡◌, ℕ, suc, ◌+◌, ◌*◌, ◌<◌, ◌≤◌, Bool, cond, ltb, ◌≢◌, ◌⊎◌, length, Some, None, Ok, Err, Result, sym, ap, ◌∙◌, subst, inl, inr, arith}
use Rattle.std.proofs.lemmas.List.{length-set, get_or-set_same, get_or-set_other}
use Rattle.std.proofs.lemmas.Bool.{ltb-true, ltb-false, cases_Bool}
use Rattle.objects.specs.Outcomes.{after, heard}
use Rattle.objects.specs.declared.fault.Fault.{Fault}
use Rattle.objects.specs.declared.fault.Fault.TheVariants.{DictFull}
use Rattle.objects.specs.declared.object.Object.{Object}
use Rattle.objects.specs.declared.object.Value.TheVariants as value
use Rattle.memory.specs.Dictionaries.{slot_in, header_of, header_in, header_object, key_place, value_place, first_pair, pair_of, pair_added, defined, defined_at}
use Rattle.memory.specs.Keys.{key_of, key_value, key_object, holds}
use Rattle.memory.specs.Memories.{InUse, with_slot}
use Rattle.memory.specs.Pairs.{Whole, Entered, Defining}
use Rattle.memory.specs.declared.key.Key.{Key}
use Rattle.memory.proofs.Looking.{cases_option}
use Rattle.memory.proofs.Pairs.{key_of_value, holds_from_key, other_not_held, search_same, search_more, search_last, pair_there}

-- one slot set
slot_set : (m : InUse) (i : ℕ) (o : Object) → i < length m.kept.slots → slot_in (with_slot i o m) i ≡ o
slot_set m i o h = get_or-set_same m.kept.slots i o _ h

slot_other : (m : InUse) (i j : ℕ) (o : Object) → j ≢ i → slot_in (with_slot i o m) j ≡ slot_in m j
slot_other m i j o ne = get_or-set_other m.kept.slots i j o _ ne

-- the same header and the same keys: the same pairs
same_pairs : (m new : InUse) (d : ℕ) (k : Key) → header_in new d ≡ header_in m d → ((l : ℕ) → slot_in new (key_place d l) ≡ slot_in m (key_place d l)) → pair_of new d k ≡ pair_of m d k
same_pairs m new d k head keys =
    ap (λ h. first_pair new d k 0 h.count) head ∙ search_same m new d k (header_in m d).count 0 (λ l _ _. keys l)

module _ (m : InUse) (d : ℕ) (k : Key) (o : Object) (whole : Whole m d) where
  -- the key has pair i
  module _ (i : ℕ) (there : pair_of m d k ≡ Some i) where
    abbrev new : InUse
    new = with_slot (value_place d i) o m

    counted : i < (header_in m d).capacity
    counted = let p = (pair_there m d k i there).counted in let c = whole.counted in omega arith

    other : (j : ℕ) → j ≢ value_place d i → slot_in new j ≡ slot_in m j
    other j ne = slot_other m (value_place d i) j o ne

    head : header_in new d ≡ header_in m d
    head = ap (λ s. header_of s.value) (other d (omega arith))

    keys : (l : ℕ) → slot_in new (key_place d l) ≡ slot_in m (key_place d l)
    keys l = other (key_place d l) (omega arith)

    pairs : (x : Key) → pair_of new d x ≡ pair_of m d x
    pairs x = same_pairs m new d x head keys

    apart : (x : Key) → (x ≡ k → ⊥) → (j : ℕ) → pair_of m d x ≡ Some j → j ≢ i
    apart x ne j at same =
        let mine = (pair_there m d k i there).key in
        let its = (pair_there m d x j at).key in
        let here = ap (λ n. key_of (slot_in m (key_place d n)).value) same in
        ne (cc)

    pub set_again : Entered m new d k o
    set_again =
        let room = counted in
        let inside = whole.inside in
        record {
          found = (i, (pairs k ∙ there, slot_set m (value_place d i) o (omega arith)));
          again = λ j at. (pairs k ∙ at, ap (λ h. h.count) head);
          behind = λ none. absurd (let z : ◌≡◌ {A = ℕ} 0 1 = cc in omega arith);
          others = λ x _. pairs x;
          values = λ x ne j at. let far = apart x ne j at in other (value_place d j) (λ e. far (omega arith));
          order = λ l _. keys l;
          room = ap (λ h. h.capacity) head;
          whole = record {
            header = ap (λ s. s.value) (other d (omega arith)) ∙ whole.header ∙ ap value.Header (sym head);
            counted = let c = whole.counted in let h = ap (λ h. h.count) head in let r = ap (λ h. h.capacity) head in omega arith;
            inside = let r = ap (λ h. h.capacity) head in let n = length-set m.kept.slots (value_place d i) o in omega arith;
          };
        }

    pub again_outside : (j : ℕ) → (j < d) ⊎ (d + 1 + 2 * (header_in m d).capacity ≤ j) → slot_in new j ≡ slot_in m j
    again_outside j away = let room = counted in elim away [ inl low ↦ other j (omega arith) | inr high ↦ other j (omega arith) ]

  -- the key is new, and there is room
  module _ (none : pair_of m d k ≡ None) (fits : (header_in m d).count < (header_in m d).capacity) where
    abbrev n : ℕ
    n = (header_in m d).count

    abbrev added : InUse
    added = pair_added d k o m

    abbrev keyed : InUse
    keyed = with_slot (key_place d n) (key_object k) m

    abbrev valued : InUse
    valued = with_slot (value_place d n) o keyed

    long : length valued.kept.slots ≡ length m.kept.slots
    long = length-set keyed.kept.slots (value_place d n) o ∙ length-set m.kept.slots (key_place d n) (key_object k)

    far : (j : ℕ) → j ≢ d → j ≢ key_place d n → j ≢ value_place d n → slot_in added j ≡ slot_in m j
    far j a b c = slot_other valued d j _ a ∙ slot_other keyed (value_place d n) j o c ∙ slot_other m (key_place d n) j (key_object k) b

    top : slot_in added d ≡ header_object (n + 1) (header_in m d).capacity
    top = let l = long in let inside = whole.inside in slot_set valued d _ (omega arith)

    pub counts : header_in added d ≡ record { count = n + 1; capacity = (header_in m d).capacity }
    counts = ap (λ s. header_of s.value) top

    key_there : slot_in added (key_place d n) ≡ key_object k
    key_there =
        let inside = whole.inside in
        slot_other valued d (key_place d n) _ (omega arith) ∙ slot_other keyed (value_place d n) (key_place d n) o (omega arith)
        ∙ slot_set m (key_place d n) (key_object k) (omega arith)

    value_there : slot_in added (value_place d n) ≡ o
    value_there =
        let inside = whole.inside in
        let l = length-set m.kept.slots (key_place d n) (key_object k) in
        slot_other valued d (value_place d n) _ (omega arith) ∙ slot_set keyed (value_place d n) o (omega arith)

    before : (l : ℕ) → l < n → slot_in added (key_place d l) ≡ slot_in m (key_place d l)
    before l h = far (key_place d l) (omega arith) (omega arith) (omega arith)

    searched : (x : Key) → first_pair added d x 0 n ≡ pair_of m d x
    searched x = search_same m added d x n 0 (λ l _ h. before l (omega arith))

    one : (header_in added d).count ≡ suc n
    one = let c = ap (λ h. h.count) counts in omega arith

    last : (x : Key) → holds x (slot_in added (key_place d (0 + n))).value ≡ holds x (key_value k)
    last x = let z : 0 + n ≡ n = omega arith in ap (λ i. holds x (slot_in added (key_place d i)).value) z ∙ ap (λ s. holds x s.value) key_there

    mine : pair_of added d k ≡ Some n
    mine =
        let z : 0 + n ≡ n = omega arith in
        ap (first_pair added d k 0) one
        ∙ search_last added d k n 0 (last k ∙ holds_from_key k (key_value k) (key_of_value k)) (searched k ∙ none)
        ∙ ap Some z

    others : (x : Key) → (x ≡ k → ⊥) → pair_of added d x ≡ pair_of m d x
    others x ne = ap (first_pair added d x 0) one ∙ search_more added d x n 0 (last x ∙ other_not_held k x ne) ∙ searched x

    pub set_behind : Entered m added d k o
    set_behind =
        let inside = whole.inside in
        let c = ap (λ h. h.count) counts in
        let r = ap (λ h. h.capacity) counts in
        record {
          found = (n, (mine, value_there));
          again = λ j at. absurd (let z : ◌≡◌ {A = ℕ} 0 1 = cc in omega arith);
          behind = λ _. (mine, c);
          others = others;
          values = λ x ne j at.
              let p = (pair_there m d x j at).counted in
              far (value_place d j) (omega arith) (omega arith) (omega arith);
          order = before;
          room = r;
          whole = record {
            header = ap (λ s. s.value) top ∙ ap value.Header (sym counts);
            counted = omega arith;
            inside = let l = long in let e = length-set valued.kept.slots d (header_object (n + 1) (header_in m d).capacity) in omega arith;
          };
        }

    pub behind_outside : (j : ℕ) → (j < d) ⊎ (d + 1 + 2 * (header_in m d).capacity ≤ j) → slot_in added j ≡ slot_in m j
    behind_outside j away =
        elim away [ inl low ↦ far j (omega arith) (omega arith) (omega arith) | inr high ↦ far j (omega arith) (omega arith) (omega arith) ]

module _ (m new : InUse) (d : ℕ) (k : Key) (o : Object) (r : Result (Unit {0}) Fault) where
  defines_again : (i : ℕ) → pair_of m d k ≡ Some i → new ≡ with_slot (value_place d i) o m → r ≡ Ok tt → Defining m new d k o r
  defines_again i there is said = record {
    refused = record {
      full = λ none _. absurd (let z : ◌≡◌ {A = ℕ} 0 1 = cc in omega arith);
      there = λ _ _. said;
      room = λ _. said;
    };
    entered = λ whole _. subst (λ x. Entered m x d k o) (sym is) (set_again m d k o whole i there);
    outside = λ whole j away. ap (λ x. slot_in x j) is ∙ again_outside m d k o whole i there j away;
  }

  defines_behind : pair_of m d k ≡ None → (header_in m d).count < (header_in m d).capacity → new ≡ pair_added d k o m → r ≡ Ok tt → Defining m new d k o r
  defines_behind none fits is said = record {
    refused = record {
      full = λ _ over. absurd (omega arith);
      there = λ i at. absurd (let z : ◌≡◌ {A = ℕ} 0 1 = cc in omega arith);
      room = λ _. said;
    };
    entered = λ whole _. subst (λ x. Entered m x d k o) (sym is) (set_behind m d k o whole none fits);
    outside = λ whole j away. ap (λ x. slot_in x j) is ∙ behind_outside m d k o whole none fits j away;
  }

  defines_nothing : pair_of m d k ≡ None → (header_in m d).capacity ≤ (header_in m d).count → new ≡ m → r ≡ Err DictFull → Defining m new d k o r
  defines_nothing none over is said = record {
    refused = record {
      full = λ _ _. said;
      there = λ i at. absurd (let z : ◌≡◌ {A = ℕ} 0 1 = cc in omega arith);
      room = λ fits. absurd (omega arith);
    };
    entered = λ whole fine. absurd (let z : ◌≡◌ {A = ℕ} 0 1 = cc in omega arith);
    outside = λ whole j away. ap (λ x. slot_in x j) is;
  }

  pub defining : new ≡ after (defined d k o m) m → r ≡ heard (defined d k o m) → Defining m new d k o r
  defining is said =
      let h = header_in m d in
      let way = λ (b : Bool). cond b (Ok (pair_added d k o m)) (Err DictFull) in
      elim (cases_option (pair_of m d k)) [
        | inl none ↦ elim (cases_Bool (ltb h.count h.capacity)) [
          | inl t ↦ defines_behind none (ltb-true _ _ t) (is ∙ ap (λ p. after (defined_at d k o m p) m) none ∙ ap (λ b. after (way b) m) t) (said ∙ ap (λ p. heard (defined_at d k o m p)) none ∙ ap (λ b. heard (way b)) t)
          | inr f ↦ defines_nothing none (ltb-false _ _ f) (is ∙ ap (λ p. after (defined_at d k o m p) m) none ∙ ap (λ b. after (way b) m) f) (said ∙ ap (λ p. heard (defined_at d k o m p)) none ∙ ap (λ b. heard (way b)) f)
        ]
        | inr some ↦ defines_again some.0 some.1 (is ∙ ap (λ p. after (defined_at d k o m p) m) some.1) (said ∙ ap (λ p. heard (defined_at d k o m p)) some.1)
      ]
