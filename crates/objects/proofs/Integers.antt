-- Reading digits from the left, with a number that stops at the largest of 32 bits.
use Rattle.std.proofs.Common.{◌≡◌, ℕ, suc, ◌+◌, ◌-◌, ◌*◌, ◌^◌, ◌<◌, ◌≤◌, min, Bool, true, false, cond, ◌&&◌, List, [], ◌∷◌, length, get_or, drop, ℤ, pos, negsuc, Some, None, Ok, decimal, Option, refl, ap, ◌∙◌, inl, inr, arith, w32, SFits, rules}
use Rattle.std.specs.Char.{is_ascii_digit}
use Rattle.std.specs.Str.{all_ascii_digits}
use Rattle.std.proofs.lemmas.List.{at_drop_more, at_drop_all}
use Rattle.std.proofs.lemmas.Fmt.{decimal_nonempty, digits_decimal, digits_value-decimal}
use Rattle.std.proofs.lemmas.Str.Parse.{IsNumeralModel, numerals_by_fold, tells_all_ascii_digits, not_in_digits}
use Rattle.std.proofs.lemmas.Bool.{cases_lt, cond-true, cond-false, eq-eqb, ne_eqb, lt-ltb}
use Rattle.std.proofs.lemmas.Bool.Decides.{nat_tests}
use Rattle.objects.specs.Caps.{capped}
use Rattle.objects.specs.Decimals.{number_after, number_read, with_sign, integer_read, integer_text}

pub number_after_ge : (n : ℕ) (cs : List ℕ) → n ≤ number_after n cs
unfolding number_after
number_after_ge n [] = omega arith
number_after_ge n (c ∷ cs) = omega (arith, number_after_ge (n * 10 + (c - 48)) cs)

-- to stop on the way is to stop at the end
cap_early : (n : ℕ) (cs : List ℕ) → min (number_after (min n (2 ^ 32 - 1)) cs) (2 ^ 32 - 1) ≡ min (number_after n cs) (2 ^ 32 - 1)
cap_early n cs = elim (cases_lt n (2 ^ 32)) [
  | inl low ↦ let e : min n (2 ^ 32 - 1) ≡ n = omega arith in ap (λ m. min (number_after m cs) (2 ^ 32 - 1)) e
  | inr high ↦ omega (arith, number_after_ge n cs, number_after_ge (min n (2 ^ 32 - 1)) cs)
]

-- what the loop answers for the digits that are left
unfoldable pub counted : ℕ → List ℕ → Option ℕ
counted n [] = Some n
counted n (c ∷ cs) = cond (is_ascii_digit c) (counted (min (n * 10 + (c - 48)) (2 ^ 32 - 1)) cs) None

counted_is : (n : ℕ) (cs : List ℕ) → n < 2 ^ 32 → counted n cs ≡ cond (all_ascii_digits cs) (Some (min (number_after n cs) (2 ^ 32 - 1))) None
unfolding counted number_after
counted_is n [] h = ap Some (omega arith)
counted_is n (c ∷ cs) h =
    let m = n * 10 + (c - 48) in
    let goes = counted_is (min m (2 ^ 32 - 1)) cs (omega arith) ∙ ap (λ k. cond (all_ascii_digits cs) (Some k) None) (cap_early m cs) in
    elim (is_ascii_digit c) as (λ b. cond b (counted (min m (2 ^ 32 - 1)) cs) None ≡ cond (b && all_ascii_digits cs) (Some (min (number_after m cs) (2 ^ 32 - 1))) None) [ true ↦ goes | false ↦ refl ]

pub counted_all : (cs : List ℕ) → 0 < length cs → counted 0 cs ≡ capped (number_read cs)
counted_all [] h = absurd (omega arith)
counted_all (c ∷ cs) h =
    counted_is 0 (c ∷ cs) (omega arith)
    ∙ elim (all_ascii_digits (c ∷ cs)) as (λ b. cond b (Some (min (number_after 0 (c ∷ cs)) (2 ^ 32 - 1))) None ≡ capped (cond b (Some (number_after 0 (c ∷ cs))) None)) [ true ↦ refl | false ↦ refl ]

module _ (n i : ℕ) (cs : List ℕ) (inside : i < length cs) where
  at_digit : counted n (drop i cs) ≡ cond (is_ascii_digit (get_or cs i 0)) (counted (min (n * 10 + (get_or cs i 0 - 48)) (2 ^ 32 - 1)) (drop (i + 1) cs)) None
  unfolding counted
  at_digit = at_drop_more (counted n) cs i 0 inside

  pub digit_more : is_ascii_digit (get_or cs i 0) ≡ true → counted n (drop i cs) ≡ counted (min (n * 10 + (get_or cs i 0 - 48)) (2 ^ 32 - 1)) (drop (i + 1) cs)
  digit_more e = at_digit ∙ cond-true _ _ _ e

  pub no_digit : is_ascii_digit (get_or cs i 0) ≡ false → counted n (drop i cs) ≡ None
  no_digit e = at_digit ∙ cond-false _ _ _ e

pub digits_done : (n i : ℕ) (cs : List ℕ) → length cs ≤ i → counted n (drop i cs) ≡ Some n
unfolding counted
digits_done n i cs h = at_drop_all (counted n) cs i h

-- where the number stops, no 32 bits with a sign hold it
pub capped_held : (negative : Bool) (o : Option ℕ) → with_sign negative (capped o) ≡ with_sign negative o
capped_held negative None = refl
capped_held negative (Some n) = elim (cases_lt n (2 ^ 32)) [
  | inl low ↦ let e : min n (2 ^ 32 - 1) ≡ n = omega arith in ap (λ m. with_sign negative (Some m)) e
  | inr high ↦ elim negative as (λ b. with_sign b (capped (Some n)) ≡ with_sign b (Some n)) [ true ↦ grind (arith, nat_tests) | false ↦ grind (arith, nat_tests) ]
]

pub read_minus : (text : List ℕ) → 0 < length text → get_or text 0 0 ≡ 45 → integer_read text ≡ with_sign true (number_read (drop 1 text))
unfolding integer_read
read_minus [] h e = absurd (omega arith)
read_minus (c ∷ cs) h e = cond-true _ _ _ (eq-eqb c 45 e)

pub read_plus : (text : List ℕ) → 0 < length text → get_or text 0 0 ≡ 43 → integer_read text ≡ with_sign false (number_read (drop 1 text))
unfolding integer_read
read_plus [] h e = absurd (omega arith)
read_plus (c ∷ cs) h e = cond-false _ _ _ (ne_eqb c 45 (λ m. omega arith)) ∙ cond-true _ _ _ (eq-eqb c 43 e)

pub read_plain : (text : List ℕ) → (get_or text 0 0 ≡ 45 → ⊥) → (get_or text 0 0 ≡ 43 → ⊥) → integer_read text ≡ with_sign false (number_read text)
unfolding integer_read
read_plain [] m p = refl
read_plain (c ∷ cs) m p = cond-false _ _ _ (ne_eqb c 45 m) ∙ cond-false _ _ _ (ne_eqb c 43 p)

-- digits are read as the number that they write
own : IsNumeralModel (λ ds. all_ascii_digits ds ≡ true) (number_after 0)
unfolding number_after
own = numerals_by_fold _ tells_all_ascii_digits number_after (search rules)

number_digits : (ds : List ℕ) → 0 < length ds → all_ascii_digits ds ≡ true → number_read ds ≡ Some (number_after 0 ds)
number_digits [] some all = absurd (omega arith)
number_digits (c ∷ cs) some all = cond-true _ _ _ all

number_decimal : (n : ℕ) → n < 2 ^ 64 → number_read (decimal n) ≡ Some n
number_decimal n h = number_digits (decimal n) (decimal_nonempty n h) (digits_decimal own n h) ∙ ap Some (digits_value-decimal own n h)

-- the text of an integer is read as that integer
pub text_read : (z : ℤ) → SFits w32 z → integer_read (integer_text z) ≡ Ok z
text_read (pos n) h =
    let some = decimal_nonempty n (omega (arith, h.sfits)) in
    let first = not_in_digits own (decimal n) in
    let all = digits_decimal own n (omega (arith, h.sfits)) in
    read_plain (decimal n) (λ e. first 45 all (λ r. omega (arith, r)) 0 some e) (λ e. first 43 all (λ r. omega (arith, r)) 0 some e)
    ∙ ap (with_sign false) (number_decimal n (omega (arith, h.sfits)))
    ∙ cond-true _ _ _ (lt-ltb n (2 ^ 31) h.sfits)
text_read (negsuc n) h =
    read_minus (45 ∷ decimal (suc n)) (omega arith) refl
    ∙ ap (with_sign true) (number_decimal (suc n) (omega (arith, h.sfits)))
    ∙ cond-true _ _ _ (lt-ltb n (2 ^ 31) h.sfits)
