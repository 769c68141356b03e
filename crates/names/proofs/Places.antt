-- Where a text stands among the names.
use Rattle.std.proofs.Common.{◌≡◌, ℕ, zero, suc, ◌+◌, ◌<◌, true, false, cond, ◌⊎◌, List, [], ◌∷◌, ◌++◌, length, get_or, Some, None, Option, sym, refl, ap, ◌∙◌, inl, inr, arith}
use Rattle.std.specs.Option.{option_map}
use Rattle.std.specs.Str.{bytes_eq}
use Rattle.std.proofs.lemmas.Slice.Eq.{bytes_eq-Decides}
use Rattle.std.proofs.lemmas.Bool.{cond-true, cond-false, cases_Bool, cases_eq}
use Rattle.std.proofs.lemmas.Bool.Decides.{not_from_Decides}
use Rattle.std.proofs.lemmas.List.{get_or_push, get_or_append_left, length-append}
use Rattle.names.specs.Names.{place_of, bytes_in}

-- two texts are the same, or not
pub texts : (xs ys : List ℕ) → ((bytes_eq xs ys ≡ true) × (xs ≡ ys)) ⊎ ((bytes_eq xs ys ≡ false) × (xs ≡ ys → ⊥))
texts xs ys = elim (cases_Bool (bytes_eq xs ys)) [
  | inl yes' ↦ inl (yes', (bytes_eq-Decides xs ys).0 yes')
  | inr no' ↦ inr (no', not_from_Decides (bytes_eq xs ys) (bytes_eq-Decides xs ys) no')
]

pub same_yes : (xs ys : List ℕ) → xs ≡ ys → bytes_eq xs ys ≡ true
same_yes xs ys e = (bytes_eq-Decides xs ys).1 e

pub same_no : (xs ys : List ℕ) → (xs ≡ ys → ⊥) → bytes_eq xs ys ≡ false
same_no xs ys ne = elim (texts xs ys) [ inl w ↦ absurd (ne w.1) | inr w ↦ w.0 ]

module _ (text name : List ℕ) (names : List (List ℕ)) where
  pub place_here : name ≡ text → place_of text (name ∷ names) ≡ Some 0
  unfolding place_of
  place_here e = cond-true _ _ _ (same_yes name text e)

  pub place_on : (name ≡ text → ⊥) → place_of text (name ∷ names) ≡ option_map suc (place_of text names)
  unfolding place_of
  place_on ne = cond-false _ _ _ (same_no name text ne)

-- no name has the bytes
pub place_none : (text : List ℕ) (names : List (List ℕ)) → ((i : ℕ) → i < length names → get_or names i [] ≡ text → ⊥) → place_of text names ≡ None
unfolding place_of
place_none text [] none = refl
place_none text (name ∷ names) none =
    place_on text name names (none 0 (omega arith))
    ∙ ap (option_map suc) (place_none text names (λ i h e. none (suc i) (omega arith) e))

-- the last of the first n names that has the bytes
unfoldable pub last_of : List ℕ → List (List ℕ) → ℕ → Option ℕ
last_of text names zero = None
last_of text names (suc n) = cond (bytes_eq (get_or names n []) text) (Some n) (last_of text names n)

module _ (text : List ℕ) (names : List (List ℕ)) where
  pub last_zero : last_of text names 0 ≡ None
  unfolding last_of
  last_zero = refl

  pub last_here : (n : ℕ) → get_or names n [] ≡ text → last_of text names (suc n) ≡ Some n
  unfolding last_of
  last_here n e = cond-true _ _ _ (same_yes (get_or names n []) text e)

  pub last_on : (n : ℕ) → (get_or names n [] ≡ text → ⊥) → last_of text names (suc n) ≡ last_of text names n
  unfolding last_of
  last_on n ne = cond-false _ _ _ (same_no (get_or names n []) text ne)

  last_some : (n k : ℕ) → last_of text names n ≡ Some k → (k < n) × (get_or names k [] ≡ text)
  last_some zero k e = let z : ◌≡◌ {A = ℕ} 0 1 = cc last_zero in absurd (omega arith)
  last_some (suc n) k e = elim (texts (get_or names n []) text) [
    | inl w ↦ let same : n ≡ k = cc (last_here n w.1) in (omega arith, ap (λ i. get_or names i []) (sym same) ∙ w.1)
    | inr w ↦ let before = last_some n k (sym (last_on n w.1) ∙ e) in (omega arith, before.1)
  ]

  last_none : (n : ℕ) → last_of text names n ≡ None → (i : ℕ) → i < n → get_or names i [] ≡ text → ⊥
  last_none zero e i h same = omega arith
  last_none (suc n) e i h same = elim (texts (get_or names n []) text) [
    | inl w ↦ let z : ◌≡◌ {A = ℕ} 0 1 = cc (last_here n w.1) in omega arith
    | inr w ↦ elim (cases_eq i n) [
      | inl at ↦ w.1 (ap (λ j. get_or names j []) (sym at) ∙ same)
      | inr other ↦ last_none n (sym (last_on n w.1) ∙ e) i (omega (arith, other)) same
    ]
  ]

  -- where each name is found under its own number, the last is the first
  pub last_is_place : ((i : ℕ) → i < length names → place_of (get_or names i []) names ≡ Some i) → last_of text names (length names) ≡ place_of text names
  last_is_place own = by (last_of text names (length names)) refl
    where
      by : (o : Option ℕ) → last_of text names (length names) ≡ o → o ≡ place_of text names
      by None e = sym (place_none text names (last_none (length names) e))
      by (Some k) e = let s = last_some (length names) k e in sym (ap (λ t. place_of t names) (sym s.1) ∙ own k s.0)

-- a name that is found stays where it is, whatever comes behind the names
pub place_kept : (text : List ℕ) (names more : List (List ℕ)) (k : ℕ) → place_of text names ≡ Some k → place_of text (names ++ more) ≡ Some k
unfolding place_of
place_kept text [] more k e = cc
place_kept text (name ∷ names) more k e = elim (texts name text) [
  | inl w ↦ place_here text name (names ++ more) w.1 ∙ sym (place_here text name names w.1) ∙ e
  | inr w ↦ place_on text name (names ++ more) w.1 ∙ by (λ j at. place_kept text names more j at) (place_of text names) refl (sym (place_on text name names w.1) ∙ e)
]
  where
    by : ((j : ℕ) → place_of text names ≡ Some j → place_of text (names ++ more) ≡ Some j) → (o : Option ℕ) → place_of text names ≡ o → option_map suc o ≡ Some k → option_map suc (place_of text (names ++ more)) ≡ Some k
    by rest None at e' = cc
    by rest (Some j) at e' = ap (option_map suc) (rest j at) ∙ e'

-- a name that is not found is found behind the names
pub place_added : (text : List ℕ) (names more : List (List ℕ)) → place_of text names ≡ None → place_of text (names ++ text ∷ more) ≡ Some (length names)
place_added text [] more e = place_here text text more refl
place_added text (name ∷ names) more e = elim (texts name text) [
  | inl w ↦ let here = place_here text name names w.1 in cc
  | inr w ↦ place_on text name (names ++ text ∷ more) w.1 ∙ by (λ at. place_added text names more at) (place_of text names) refl (sym (place_on text name names w.1) ∙ e)
]
  where
    by : (place_of text names ≡ None → place_of text (names ++ text ∷ more) ≡ Some (length names)) → (o : Option ℕ) → place_of text names ≡ o → option_map suc o ≡ None → option_map suc (place_of text (names ++ text ∷ more)) ≡ Some (suc (length names))
    by rest None at e' = ap (option_map suc) (rest at)
    by rest (Some j) at e' = cc

-- each name is found under its own number, and still is when a new one is added
pub own_added : (text : List ℕ) (names : List (List ℕ)) → place_of text names ≡ None → ((i : ℕ) → i < length names → place_of (get_or names i []) names ≡ Some i) → (i : ℕ) → i < length (names ++ text ∷ []) → place_of (get_or (names ++ text ∷ []) i []) (names ++ text ∷ []) ≡ Some i
own_added text names new own i h = elim (cases_eq i (length names)) [
  | inl at ↦
      ap (λ t. place_of t (names ++ text ∷ [])) (ap (λ j. get_or (names ++ text ∷ []) j []) at ∙ get_or_push names text [] (length names) refl)
      ∙ place_added text names [] new ∙ ap Some (sym at)
  | inr other ↦
      let low : i < length names = omega (arith, other, h, length-append names (text ∷ [])) in
      ap (λ t. place_of t (names ++ text ∷ [])) (get_or_append_left names (text ∷ []) [] i low)
      ∙ place_kept (get_or names i []) names (text ∷ []) i (own i low)
]

pub bytes_added : (text : List ℕ) (names : List (List ℕ)) → bytes_in (names ++ text ∷ []) ≡ bytes_in names + length text
unfolding bytes_in
bytes_added text [] = omega arith
bytes_added text (name ∷ names) = omega (arith, bytes_added text names)
