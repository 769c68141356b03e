-- Different places below n are at most n, and one fewer where one of them is left free.
use Rattle.std.proofs.Common.{◌≡◌, ℕ, zero, suc, ◌<◌, ◌≤◌, cond, eqb, ltb, zero-le, arith}
use Rattle.std.proofs.lemmas.Bool.Decides.{nat_tests}

-- f sends each number below c to a place below n, no two to one place
pub record Places (f : ℕ → ℕ) (c n : ℕ) : Type 0 where
  pub below : (j : ℕ) → j < c → f j < n
  pub apart : (j k : ℕ) → j < c → k < c → f j ≡ f k → j ≡ k

-- place n, where some number went, is given up for the place of the last number
abbrev moved : (ℕ → ℕ) → ℕ → ℕ → ℕ → ℕ
moved f c n j = cond (eqb (f j) n) (f c) (f j)

moved_places : (f : ℕ → ℕ) (c n : ℕ) → Places f (suc c) (suc n) → Places (moved f c n) c n
moved_places f c n p = record {
  below = λ j h.
      let a : f j < suc n = p.below j (omega arith) in
      let b : f c < suc n = p.below c (omega arith) in
      let e : f j ≡ f c → j ≡ c = p.apart j c (omega arith) (omega arith) in
      grind (arith, nat_tests);
  apart = λ j k h i e.
      let a : f j ≡ f k → j ≡ k = p.apart j k (omega arith) (omega arith) in
      let b : f j ≡ f c → j ≡ c = p.apart j c (omega arith) (omega arith) in
      let d : f k ≡ f c → k ≡ c = p.apart k c (omega arith) (omega arith) in
      grind (arith, nat_tests);
}

pub at_most : (n c : ℕ) (f : ℕ → ℕ) → Places f c n → c ≤ n
at_most n zero f p = zero-le
at_most zero (suc c) f p = let h : f 0 < 0 = p.below 0 (omega arith) in omega arith
at_most (suc n) (suc c) f p = let h = at_most n c (moved f c n) (moved_places f c n p) in omega arith

-- the free place goes to one number more
abbrev joined : (ℕ → ℕ) → ℕ → ℕ → ℕ → ℕ
joined f c i j = cond (ltb j c) (f j) i

pub room_for_one : (n c : ℕ) (f : ℕ → ℕ) (i : ℕ) → Places f c n → i < n → ((j : ℕ) → j < c → f j ≡ i → ⊥) → c < n
room_for_one n c f i p h free =
    at_most n (suc c) (joined f c i)
    (record {
      below = λ j a.
          let b : j < c → f j < n = p.below j in
          grind (arith, nat_tests);
      apart = λ j k a b e.
          let x : j < c → k < c → f j ≡ f k → j ≡ k = p.apart j k in
          let y : j < c → f j ≡ i → ⊥ = free j in
          let z : k < c → f k ≡ i → ⊥ = free k in
          grind (arith, nat_tests);
    })
