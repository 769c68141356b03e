-- A key looked up: nearest the top, or nowhere.
use Rattle.std.proofs.Common.{◌≡◌, ℕ, zero, suc, ◌-◌, ◌<◌, ◌⊎◌, List, [], ◌∷◌, reverse, length, get_or, Some, None, Option, sym, refl, ap, ◌∙◌, subst, inl, inr, arith}
use Rattle.std.proofs.lemmas.List.{length-reverse, get_or-reverse}
use Rattle.memory.specs.Dictionaries.{pair_of, first_entry, entry_if}
use Rattle.memory.specs.Memories.{InUse}
use Rattle.memory.specs.Pairs.{HasPair, Looked}
use Rattle.memory.specs.declared.dictionary.Entry.{Entry}
use Rattle.memory.specs.declared.key.Key.{Key}
use Rattle.memory.proofs.Pairs.{pair_there, pair_first, pair_none}

pub cases_option : {A : Type 0} (o : Option A) → (o ≡ None) ⊎ ((x : A) × (o ≡ Some x))
cases_option None = inl refl
cases_option (Some x) = inr (x, refl)

-- what is found going down the dictionaries, given from the top
record Down (m : InUse) (k : Key) (es : List ℕ) (e : Entry) : Type 0 where
  place : ℕ
  inside : place < length es
  dictionary : get_or es place 0 ≡ e.dictionary
  pair : HasPair m e.dictionary k e.pair
  first : (i : ℕ) → i < e.pair → HasPair m e.dictionary k i → ⊥
  nearest : (q : ℕ) → q < place → (i : ℕ) → HasPair m (get_or es q 0) k i → ⊥

module _ (m : InUse) (k : Key) where
  one_more : (d : ℕ) (es : List ℕ) (p : ℕ) → ((i : ℕ) → HasPair m d k i → ⊥) → ((q : ℕ) → q < p → (i : ℕ) → HasPair m (get_or es q 0) k i → ⊥) → (q : ℕ) → q < suc p → (i : ℕ) → HasPair m (get_or (d ∷ es) q 0) k i → ⊥
  one_more d es p here rest zero h i = here i
  one_more d es p here rest (suc q) h i = rest q (omega arith) i

  down_found : (es : List ℕ) (e : Entry) → first_entry m k es ≡ Some e → Down m k es e
  unfolding first_entry
  down_found [] e is = absurd (let z : ◌≡◌ {A = ℕ} 0 1 = cc in omega arith)
  down_found (d ∷ es) e is =
      let below = first_entry m k es in
      elim (cases_option (pair_of m d k)) [
        | inl none ↦ (let rest = down_found es e (sym (ap (λ p. entry_if d p below) none) ∙ is) in
            let more = rest.inside in
            record {
              place = suc rest.place;
              inside = omega arith;
              dictionary = rest.dictionary;
              pair = rest.pair;
              first = rest.first;
              nearest = one_more d es rest.place (pair_none m d k none) rest.nearest;
            })
        | inr some ↦ (let told = sym (ap (λ p. entry_if d p below) some.1) ∙ is in
            let dict : d ≡ e.dictionary = cc in
            let which : some.0 ≡ e.pair = cc in
            let there : pair_of m e.dictionary k ≡ Some e.pair = ap (λ x. pair_of m x k) (sym dict) ∙ some.1 ∙ ap Some which in
            record {
              place = 0;
              inside = omega arith;
              dictionary = dict;
              pair = pair_there m e.dictionary k e.pair there;
              first = pair_first m e.dictionary k e.pair there;
              nearest = λ q h. absurd (omega arith);
            })
      ]

  down_none : (es : List ℕ) → first_entry m k es ≡ None → (q : ℕ) → q < length es → (i : ℕ) → HasPair m (get_or es q 0) k i → ⊥
  unfolding first_entry
  down_none [] is = λ q h. absurd (omega arith)
  down_none (d ∷ es) is =
      let below = first_entry m k es in
      elim (cases_option (pair_of m d k)) [
        | inl none ↦ one_more d es (length es) (pair_none m d k none) (down_none es (sym (ap (λ p. entry_if d p below) none) ∙ is))
        | inr some ↦ absurd (let told = ap (λ p. entry_if d p below) some.1 in let z : ◌≡◌ {A = ℕ} 0 1 = cc in omega arith)
      ]

  -- the same from below, as the stack has them
  pub looked : (ds : List ℕ) (r : Option Entry) → r ≡ first_entry m k (reverse ds) → Looked m k ds r
  looked ds (Some e) is =
      let down = down_found (reverse ds) e (sym is) in
      let all = length-reverse ds in
      let p = down.place in
      let some : p < length ds = let i = down.inside in omega arith in
      record {
        place = length ds - 1 - p;
        inside = omega arith;
        dictionary = sym (get_or-reverse ds p 0 some) ∙ down.dictionary;
        pair = down.pair;
        first = down.first;
        nearest = λ q low high i has.
            let turned : length ds - 1 - (length ds - 1 - q) ≡ q = omega arith in
            let same = get_or-reverse ds (length ds - 1 - q) 0 (omega arith) ∙ ap (λ n. get_or ds n 0) turned in
            down.nearest (length ds - 1 - q) (omega arith) i (subst (λ x. HasPair m x k i) (sym same) has);
      }
  looked ds None is = λ q high i has.
      let all = length-reverse ds in
      let turned : length ds - 1 - (length ds - 1 - q) ≡ q = omega arith in
      let same = get_or-reverse ds (length ds - 1 - q) 0 (omega arith) ∙ ap (λ n. get_or ds n 0) turned in
      down_none (reverse ds) (sym is) (length ds - 1 - q) (omega arith) i (subst (λ x. HasPair m x k i) (sym same) has)
