-- The pairs of a dictionary: what a search tells of them, and when two memories have the same.
use Rattle.std.proofs.Common.{◌≡◌, ℕ, zero, suc, ◌+◌, ◌<◌, ◌≤◌, Bool, true, false, cond, ℤ, pos, negsuc, Some, None, Option, sym, refl, ap, ◌∙◌, inl, inr, arith}
use Rattle.std.proofs.lemmas.Bool.{eqb-true, eq-eqb, cases_Bool, cases_eq}
use Rattle.objects.specs.declared.object.Value.{Value}
use Rattle.memory.specs.Dictionaries.{slot_in, header_in, key_place, first_pair, pair_of}
use Rattle.memory.specs.Keys.{key_of, key_value, same_integer, same_flag, same_key, same_if_any, holds}
use Rattle.memory.specs.Memories.{InUse}
use Rattle.memory.specs.Pairs.{HasPair}
use Rattle.memory.specs.declared.key.Key.{Key}
use Rattle.memory.specs.declared.key.Key.TheVariants.{Name, Integer, Boolean}

same_integer_true : (a b : ℤ) → same_integer a b ≡ true → b ≡ a
same_integer_true (pos a) (pos b) t = ap pos (sym (eqb-true a b t))
same_integer_true (pos a) (negsuc b) t = absurd (let z : ◌≡◌ {A = ℕ} 0 1 = cc in omega arith)
same_integer_true (negsuc a) (pos b) t = absurd (let z : ◌≡◌ {A = ℕ} 0 1 = cc in omega arith)
same_integer_true (negsuc a) (negsuc b) t = ap negsuc (sym (eqb-true a b t))

same_integer_refl : (a : ℤ) → same_integer a a ≡ true
same_integer_refl (pos a) = eq-eqb a a refl
same_integer_refl (negsuc a) = eq-eqb a a refl

same_flag_true : (a b : Bool) → same_flag a b ≡ true → b ≡ a
same_flag_true true true t = refl
same_flag_true true false t = t
same_flag_true false true t = absurd (let z : ◌≡◌ {A = ℕ} 0 1 = cc in omega arith)
same_flag_true false false t = refl

same_key_true : (a b : Key) → same_key a b ≡ true → b ≡ a
same_key_true (Name a) (Name b) t = ap Name (sym (eqb-true a b t))
same_key_true (Name a) (Integer b) t = absurd (let z : ◌≡◌ {A = ℕ} 0 1 = cc in omega arith)
same_key_true (Name a) (Boolean b) t = absurd (let z : ◌≡◌ {A = ℕ} 0 1 = cc in omega arith)
same_key_true (Integer a) (Name b) t = absurd (let z : ◌≡◌ {A = ℕ} 0 1 = cc in omega arith)
same_key_true (Integer a) (Integer b) t = ap Integer (same_integer_true a b t)
same_key_true (Integer a) (Boolean b) t = absurd (let z : ◌≡◌ {A = ℕ} 0 1 = cc in omega arith)
same_key_true (Boolean a) (Name b) t = absurd (let z : ◌≡◌ {A = ℕ} 0 1 = cc in omega arith)
same_key_true (Boolean a) (Integer b) t = absurd (let z : ◌≡◌ {A = ℕ} 0 1 = cc in omega arith)
same_key_true (Boolean a) (Boolean b) t = ap Boolean (same_flag_true a b t)

same_key_refl : (a : Key) → same_key a a ≡ true
same_key_refl (Name a) = eq-eqb a a refl
same_key_refl (Integer a) = same_integer_refl a
same_key_refl (Boolean true) = refl
same_key_refl (Boolean false) = refl

same_if_any_true : (k : Key) (o : Option Key) → same_if_any k o ≡ true → o ≡ Some k
same_if_any_true k None t = absurd (let z : ◌≡◌ {A = ℕ} 0 1 = cc in omega arith)
same_if_any_true k (Some x) t = ap Some (same_key_true k x t)

-- a slot holds the key exactly if it is the slot's key
pub key_from_holds : (k : Key) (v : Value) → holds k v ≡ true → key_of v ≡ Some k
key_from_holds k v t = same_if_any_true k (key_of v) t

pub holds_from_key : (k : Key) (v : Value) → key_of v ≡ Some k → holds k v ≡ true
holds_from_key k v e = ap (same_if_any k) e ∙ same_key_refl k

pub key_of_value : (k : Key) → key_of (key_value k) ≡ Some k
key_of_value (Name a) = refl
key_of_value (Integer a) = refl
key_of_value (Boolean a) = refl

pub other_not_held : (k x : Key) → (x ≡ k → ⊥) → holds x (key_value k) ≡ false
other_not_held k x other =
    elim (cases_Bool (holds x (key_value k))) [ inl t ↦ absurd (other (let a = key_from_holds x (key_value k) t in let b = key_of_value k in cc)) | inr f ↦ f ]

-- whether pair i has the key
abbrev pub held : InUse → ℕ → Key → ℕ → Bool
held m d k i = holds k (slot_in m (key_place d i)).value

-- what a search over n pairs from pair i on tells
pub record At (m : InUse) (d : ℕ) (k : Key) (i n j : ℕ) : Type 0 where
  pub low : i ≤ j
  pub high : j < i + n
  pub here : held m d k j ≡ true
  pub none : (l : ℕ) → i ≤ l → l < j → held m d k l ≡ false

module _ (m : InUse) (d : ℕ) (k : Key) where
  pub search_found : (n i j : ℕ) → first_pair m d k i n ≡ Some j → At m d k i n j
  unfolding first_pair
  search_found zero i j e = absurd (let z : ◌≡◌ {A = ℕ} 0 1 = cc in omega arith)
  search_found (suc n) i j e =
      elim (cases_Bool (held m d k i)) [
        | inl t ↦ (let same : i ≡ j = (let u = ap (λ b. cond b (Some i) (first_pair m d k (i + 1) n)) t in cc) in
            record { low = omega arith; high = omega arith; here = ap (held m d k) (sym same) ∙ t; none = λ l a b. absurd (omega arith) })
        | inr f ↦ (let rest = search_found n (i + 1) j (sym (ap (λ b. cond b (Some i) (first_pair m d k (i + 1) n)) f) ∙ e) in
            let low = rest.low in let high = rest.high in
            record {
              low = omega arith;
              high = omega arith;
              here = rest.here;
              none = λ l a b. elim (cases_eq i l) [ inl s ↦ ap (held m d k) (sym s) ∙ f | inr ne ↦ rest.none l (omega arith) b ];
            })
      ]

  pub search_none : (n i : ℕ) → first_pair m d k i n ≡ None → (l : ℕ) → i ≤ l → l < i + n → held m d k l ≡ false
  unfolding first_pair
  search_none zero i e l a b = absurd (omega arith)
  search_none (suc n) i e l a b =
      elim (cases_Bool (held m d k i)) [
        | inl t ↦ absurd (let u = ap (λ b. cond b (Some i) (first_pair m d k (i + 1) n)) t in let z : ◌≡◌ {A = ℕ} 0 1 = cc in omega arith)
        | inr f ↦ elim (cases_eq i l) [
          | inl s ↦ ap (held m d k) (sym s) ∙ f
          | inr ne ↦ search_none n (i + 1) (sym (ap (λ b. cond b (Some i) (first_pair m d k (i + 1) n)) f) ∙ e) l (omega arith) (omega arith)
        ]
      ]

  pub search_past : (n i : ℕ) → ((l : ℕ) → i ≤ l → l < i + n → held m d k l ≡ false) → first_pair m d k i n ≡ None
  unfolding first_pair
  search_past zero i none = refl
  search_past (suc n) i none =
      ap (λ b. cond b (Some i) (first_pair m d k (i + 1) n)) (none i (omega arith) (omega arith))
      ∙ search_past n (i + 1) (λ l a b. none l (omega arith) (omega arith))

  -- one pair more behind those searched
  pub search_more : (n i : ℕ) → held m d k (i + n) ≡ false → first_pair m d k i (suc n) ≡ first_pair m d k i n
  unfolding first_pair
  search_more zero i last = ap (λ b. cond b (Some i) None) (ap (held m d k) (let z : i ≡ i + 0 = omega arith in z) ∙ last)
  search_more (suc n) i last =
      let z : i + 1 + n ≡ i + suc n = omega arith in
      ap (λ r. cond (held m d k i) (Some i) r) (search_more n (i + 1) (ap (held m d k) z ∙ last))

  pub search_last : (n i : ℕ) → held m d k (i + n) ≡ true → first_pair m d k i n ≡ None → first_pair m d k i (suc n) ≡ Some (i + n)
  unfolding first_pair
  search_last zero i last none =
      let z : i ≡ i + 0 = omega arith in
      ap (λ b. cond b (Some i) None) (ap (held m d k) z ∙ last) ∙ ap Some z
  search_last (suc n) i last none =
      let z : i + 1 + n ≡ i + suc n = omega arith in
      let first = search_none (suc n) i none i (omega arith) (omega arith) in
      ap (λ b. cond b (Some i) (first_pair m d k (i + 1) (suc n))) first
      ∙ search_last n (i + 1) (ap (held m d k) z ∙ last) (sym (ap (λ b. cond b (Some i) (first_pair m d k (i + 1) n)) first) ∙ none)
      ∙ ap Some z

-- two memories with the same keys in the pairs searched
pub search_same : (m new : InUse) (d : ℕ) (k : Key) (n i : ℕ) → ((l : ℕ) → i ≤ l → l < i + n → slot_in new (key_place d l) ≡ slot_in m (key_place d l)) → first_pair new d k i n ≡ first_pair m d k i n
unfolding first_pair
search_same m new d k zero i same = refl
search_same m new d k (suc n) i same =
    let here : held new d k i ≡ held m d k i = ap (λ o. holds k o.value) (same i (omega arith) (omega arith)) in
    let rest = search_same m new d k n (i + 1) (λ l a b. same l (omega arith) (omega arith)) in
    ap (λ b. cond b (Some i) (first_pair new d k (i + 1) n)) here ∙ ap (λ r. cond (held m d k i) (Some i) r) rest

not_held : (m : InUse) (d : ℕ) (k : Key) (i : ℕ) → held m d k i ≡ false → HasPair m d k i → ⊥
not_held m d k i f p = let t = holds_from_key k (slot_in m (key_place d i)).value p.key in let z : ◌≡◌ {A = ℕ} 0 1 = cc in omega arith

-- the pair that a dictionary has for a key
pub pair_there : (m : InUse) (d : ℕ) (k : Key) (j : ℕ) → pair_of m d k ≡ Some j → HasPair m d k j
pair_there m d k j e =
    let at = search_found m d k (header_in m d).count 0 j e in
    let high = at.high in
    record { counted = omega arith; key = key_from_holds k (slot_in m (key_place d j)).value at.here }

pub pair_first : (m : InUse) (d : ℕ) (k : Key) (j : ℕ) → pair_of m d k ≡ Some j → (i : ℕ) → i < j → HasPair m d k i → ⊥
pair_first m d k j e i h = not_held m d k i ((search_found m d k (header_in m d).count 0 j e).none i (omega arith) h)

pub pair_none : (m : InUse) (d : ℕ) (k : Key) → pair_of m d k ≡ None → (i : ℕ) → HasPair m d k i → ⊥
pair_none m d k e i p = let h = p.counted in not_held m d k i (search_none m d k (header_in m d).count 0 e i (omega arith) (omega arith)) p
