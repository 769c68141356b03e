-- A list and one element more as the front of a longer one.
use Rattle.std.proofs.Common.{◌≡◌, ℕ, ◌+◌, ◌<◌, List, [], ◌∷◌, ◌++◌, length, get_or, take, sym, ap, ◌∙◌, arith}
use Rattle.std.proofs.lemmas.List.{take_at, take-take, take-append-le, take_more, same_from_push}

module _ {X : Type 0} where
  -- the last element of a front left out
  pub front_less : (xs all : List X) (x : X) (m : ℕ) → length xs ≡ m → xs ++ x ∷ [] ≡ take (m + 1) all → xs ≡ take m all
  front_less xs all x m long e = sym (take_at xs (x ∷ []) m long) ∙ ap (take m) e ∙ take-take m (m + 1) all (omega arith)

  -- a front that ends before the last element of all
  pub front_ends : (xs all : List X) (x last d : X) (m : ℕ) → m < length all → xs ++ x ∷ [] ≡ take (m + 1) (all ++ last ∷ []) → (xs ≡ take m all) × (x ≡ get_or all m d)
  front_ends xs all x last d m h e =
      same_from_push xs (take m all) x (get_or all m d)
      (e ∙ take-append-le (m + 1) all (last ∷ []) (omega arith) ∙ take_more all m d h)
