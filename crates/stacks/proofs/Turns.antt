-- Laws of a roll.
use Rattle.std.proofs.Common.{◌≡◌, ℕ, ◌-◌, ◌<◌, ◌≤◌, ◌⊎◌, List, [], ◌∷◌, ◌++◌, length, take, drop, sym, refl, ap, ◌∙◌, subst, inl, inr, arith}
use Rattle.std.specs.List.Sorted.{IsPermutation}
use Rattle.std.proofs.lemmas.List.{append_assoc, length-append, length-take-le, length-drop, take-append-drop, take-take, take_at, drop_at}
use Rattle.std.proofs.lemmas.List.Sorted.{IsPermutation-refl, IsPermutation-append_comm}
use Rattle.std.proofs.lemmas.Bool.{cases_lt}
use Rattle.std.proofs.lemmas.Bool.Decides.{nat_tests}
use Rattle.stacks.specs.Stacked.{Stacked, turned, rolled, Rolls, with_objects}

-- the manual's examples, top first: (a)(b)(c) 3 1 roll gives (c)(a)(b), and (a)(b)(c) 3 -1 roll, which is by 2, gives (b)(c)(a)
example_down : {X : Type 0} (a b c : X) → turned 3 1 (c ∷ b ∷ a ∷ []) ≡ b ∷ a ∷ c ∷ []
example_down a b c = refl

example_up : {X : Type 0} (a b c : X) → turned 3 2 (c ∷ b ∷ a ∷ []) ≡ a ∷ c ∷ b ∷ []
example_up a b c = refl

module _ {X : Type 0} where
  module _ (n k : ℕ) (xs : List X) (low : k ≤ n) (long : n ≤ length xs) where
    abbrev others : List X
    others = drop k (take n xs)

    others_length : length others ≡ n - k
    others_length = length-drop k (take n xs) ∙ ap (λ m. m - k) (length-take-le n xs long)

    both_length : length (others ++ take k xs) ≡ n
    both_length = length-append others (take k xs) ∙ omega (arith, length-take-le k xs (omega arith), others_length)

    parts : take n xs ≡ take k xs ++ others
    parts = sym (take-append-drop k (take n xs)) ∙ ap (λ ys. ys ++ others) (take-take k n xs low)

    turned_is : turned n k xs ≡ (others ++ take k xs) ++ drop n xs
    turned_is = sym (append_assoc others (take k xs) (drop n xs))

    take_turned : take n (turned n k xs) ≡ others ++ take k xs
    take_turned = ap (take n) turned_is ∙ take_at (others ++ take k xs) (drop n xs) n both_length

    pub drop_turned : drop n (turned n k xs) ≡ drop n xs
    drop_turned = ap (drop n) turned_is ∙ drop_at (others ++ take k xs) (drop n xs) n both_length

    pub group_shuffled : IsPermutation (take n xs) (take n (turned n k xs))
    group_shuffled = rw take_turned (subst (λ ys. IsPermutation ys (others ++ take k xs)) (sym parts) (IsPermutation-append_comm (take k xs) others))

    pub turned_turned : turned n (n - k) (turned n k xs) ≡ xs
    turned_turned =
        let first : drop (n - k) (take n (turned n k xs)) ≡ take k xs = ap (drop (n - k)) take_turned ∙ drop_at others (take k xs) (n - k) others_length in
        let second : take (n - k) (turned n k xs) ≡ others = take_at others (take k xs ++ drop n xs) (n - k) others_length in
        let third = drop_turned in
        let whole = take-append-drop n xs in
        let split = parts in
        let regroup = append_assoc (take k xs) others (drop n xs) in
        cc

    pub length_turned : length (turned n k xs) ≡ length xs
    length_turned = ap length turned_is ∙ length-append (others ++ take k xs) (drop n xs) ∙ omega (arith, both_length, length-drop n xs)

module _ (n k : ℕ) (s : Stacked) where
  pub rolled_turns : k < n → n ≤ length s.objects → rolled n k s ≡ with_objects (turned n k s.objects) s
  rolled_turns h long = grind (arith, nat_tests)

  rolled_not : (n ≤ k) ⊎ (length s.objects < n) → rolled n k s ≡ s
  rolled_not h = grind (arith, nat_tests)

rolled_none : (n : ℕ) (s : Stacked) → rolled n 0 s ≡ s
rolled_none n s = elim (cases_lt (length s.objects) n) [
  | inl short ↦ rolled_not n 0 s (inr short)
  | inr long ↦ elim (cases_lt 0 n) [
    | inl some ↦ rolled_turns n 0 s some long ∙ ap (λ os. with_objects os s) (take-append-drop n s.objects)
    | inr none ↦ rolled_not n 0 s (inl none)
  ]
]

-- nothing was changed
still : (n k : ℕ) (s t : Stacked) → t ≡ s → (0 < k → rolled n (n - k) s ≡ s) → Rolls n k s t
still n k s t e back = rw e (record { group = IsPermutation-refl (take n s.objects); rest = refl; back = back })

pub rolls : (n k : ℕ) (s t : Stacked) → t ≡ rolled n k s → Rolls n k s t
rolls n k s t e = elim (cases_lt k n) [
  | inr far ↦
      let none : n - k ≡ 0 = omega arith in
      still n k s t (e ∙ rolled_not n k s (inl far)) (λ _. ap (λ m. rolled n m s) none ∙ rolled_none n s)
  | inl low ↦ elim (cases_lt (length s.objects) n) [
    | inl short ↦ still n k s t (e ∙ rolled_not n k s (inr short)) (λ _. rolled_not n (n - k) s (inr short))
    | inr long ↦
        let size = length_turned n k s.objects (omega arith) long in
        rw (e ∙ rolled_turns n k s low long) (record {
          group = group_shuffled n k s.objects (omega arith) long;
          rest = drop_turned n k s.objects (omega arith) long;
          back = λ some. rolled_turns n (n - k) (with_objects (turned n k s.objects) s) (omega arith) (omega arith) ∙ ap (λ os. with_objects os s) (turned_turned n k s.objects (omega arith) long);
        })
  ]
]
