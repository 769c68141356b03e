-- A search through pairs and dictionaries, one step at a time.
use Rattle.std.proofs.Common.{◌≡◌, ℕ, suc, ◌+◌, ◌-◌, ◌<◌, ◌≤◌, true, false, cond, List, [], ◌∷◌, ◌++◌, reverse, Some, None, Option, MatchOption, sym, ap, ◌∙◌, inl, inr, arith}
use Rattle.std.proofs.lemmas.List.{reverse-append}
use Rattle.std.proofs.lemmas.Bool.{cases_lt, both_ways}
use Rattle.memory.specs.Dictionaries.{slot_in, key_place, pair_of, first_pair, first_entry, entry_if}
use Rattle.memory.specs.Keys.{holds}
use Rattle.memory.specs.Memories.{InUse}
use Rattle.memory.specs.declared.key.Key.{Key}
use Rattle.memory.proofs.Looking.{cases_option}
use Rattle.memory.proofs.Pairs.{held, search_past, search_none, search_found}

module _ (m : InUse) (d : ℕ) (k : Key) (n i : ℕ) where
  pair_here : i < n → first_pair m d k i (n - i) ≡ cond (holds k (slot_in m (key_place d i)).value) (Some i) (first_pair m d k (i + 1) (n - (i + 1)))
  unfolding first_pair
  pair_here h =
      let e : n - i ≡ suc (n - (i + 1)) = omega arith in
      ap (first_pair m d k i) e

  pub pair_found : i < n → holds k (slot_in m (key_place d i)).value ≡ true → first_pair m d k i (n - i) ≡ Some i
  pair_found h t = pair_here h ∙ ap (λ b. cond b (Some i) (first_pair m d k (i + 1) (n - (i + 1)))) t

  pub pair_passed : i < n → holds k (slot_in m (key_place d i)).value ≡ false → first_pair m d k i (n - i) ≡ first_pair m d k (i + 1) (n - (i + 1))
  pair_passed h t = pair_here h ∙ ap (λ b. cond b (Some i) (first_pair m d k (i + 1) (n - (i + 1)))) t

  pub pairs_passed : n ≤ i → first_pair m d k i (n - i) ≡ None
  unfolding first_pair
  pairs_passed h = let e : n - i ≡ 0 = omega arith in ap (first_pair m d k i) e

-- what a search over all of n pairs answered
pub first_is : (m : InUse) (d : ℕ) (k : Key) (n : ℕ) (r : Option ℕ) → MatchOption r ((i : ℕ) → 0 ≤ i → i < n → held m d k i ≡ false) (λ i. (0 ≤ i) × (i < n) × (held m d k i ≡ true) × ((l : ℕ) → 0 ≤ l → l < i → held m d k l ≡ false)) → r ≡ first_pair m d k 0 n
first_is m d k n None none = sym (search_past m d k n 0 (λ l a b. none l a (omega arith)))
first_is m d k n (Some i) found =
    elim (cases_option (first_pair m d k 0 n)) [
      | inl none ↦ absurd (both_ways (held m d k i) (search_none m d k n 0 none i found.0 (let h = found.1 in omega arith)) found.2)
      | inr some ↦
          let j = some.0 in
          let at = search_found m d k n 0 j some.1 in
          elim (cases_lt i j) [
            | inl less ↦ absurd (both_ways (held m d k i) (at.none i found.0 less) found.2)
            | inr more ↦ elim (cases_lt j i) [
              | inl less ↦ absurd (both_ways (held m d k j) (found.3 j at.low less) at.here)
              | inr same ↦ (let e : i ≡ j = omega arith in ap Some e ∙ sym some.1)
            ]
          ]
    ]

-- the top one of the dictionaries that are left
pub entry_top : (m : InUse) (k : Key) (ds : List ℕ) (d : ℕ) → first_entry m k (reverse (ds ++ d ∷ [])) ≡ entry_if d (pair_of m d k) (first_entry m k (reverse ds))
unfolding first_entry
entry_top m k ds d = ap (first_entry m k) (reverse-append ds (d ∷ []))
