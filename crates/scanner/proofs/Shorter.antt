-- A piece takes at least a byte, unless the text is at its end.
use Rattle.std.proofs.Common.{◌≡◌, ℕ, ◌<◌, ◌≤◌, false, cond, ◌||◌, eqb, ◌⊎◌, List, [], ◌∷◌, length, Ok, sym, refl, subst, inl, inr, arith}
use Rattle.std.proofs.lemmas.Bool.{cond_both}
use Rattle.std.proofs.lemmas.Bool.Decides.{nat_tests}
use Rattle.scanner.specs.Bytes.{white, ends_comment, ends_run}
use Rattle.scanner.specs.Lexemes.{Reading, ended, lexeme, skipped, past_comment, begun, body}
use Rattle.scanner.specs.Runs.{past_run}
use Rattle.scanner.proofs.Taking.{taken_le, all, in_body, in_run, in_blanks, in_comment}

-- neither white space nor a comment is left in front
abbrev First : List ℕ → Type 0
First [] = Unit {0}
First (b ∷ bs) = (white b ≡ false) × (eqb b 37 ≡ false)

mutual
  unfolding skipped past_comment

  first_skipped : (bs : List ℕ) → First (skipped bs)
  first_skipped [] = tt
  first_skipped (b ∷ bs) = cond_both (white b) _ _ First (λ _. first_skipped bs) (λ w. cond_both (eqb b 37) _ _ First (λ _. first_past bs) (λ e. (w, e)))

  first_past : (bs : List ℕ) → First (past_comment bs)
  first_past [] = tt
  first_past (b ∷ bs) = cond_both (ends_comment b) _ _ First (λ _. first_skipped bs) (λ _. first_past bs)

begun_le : (out : List ℕ) (b : ℕ) (bs : List ℕ) → First (b ∷ bs) → length (begun out (b ∷ bs)).left ≤ length bs
unfolding begun past_run ends_run
begun_le out b bs f =
    let here : length bs ≤ length bs = omega arith in
    let P : Reading → Type 0 = λ r. length r.left ≤ length bs in
    cond_both (eqb b 40) _ _ P (λ _. taken_le bs _ (all bs out (body bs out 0 false) (in_body bs out 0 false)).0)
    (λ e1. cond_both (eqb b 47) _ _ P (λ _. taken_le bs _ (in_run bs))
    (λ e2. cond_both (eqb b 91 || eqb b 93) _ _ P (λ _. here)
    (λ e3. cond_both (eqb b 123) _ _ P (λ _. here)
    (λ e4. cond_both (eqb b 125) _ _ P (λ _. here)
    (λ e5. cond_both (eqb b 41 || (eqb b 60 || eqb b 62)) _ _ P (λ _. here)
    (λ e6.
    let e : ends_run b ≡ false = grind (arith, nat_tests) in
    subst (λ t. length (cond t (b ∷ bs) (past_run bs)) ≤ length bs) (sym e) (taken_le bs _ (in_run bs))))))))

pub shorter : (out bs : List ℕ) → ((lexeme out bs).said ≡ Ok ended) ⊎ (length (lexeme out bs).left < length bs)
unfolding begun
shorter out bs = go (skipped bs) (first_skipped bs) (taken_le bs _ (in_blanks bs))
  where
    go : (ss : List ℕ) → First ss → length ss ≤ length bs → ((begun out ss).said ≡ Ok ended) ⊎ (length (begun out ss).left < length bs)
    go [] f h = inl refl
    go (s ∷ ss) f h = inr (omega (arith, begun_le out s ss f))

-- where a byte is left, at least one is taken
begun_lt : (out ss : List ℕ) (n : ℕ) → First ss → length ss ≤ n → 0 < n → length (begun out ss).left < n
unfolding begun
begun_lt out [] n f h some = some
begun_lt out (s ∷ ss) n f h some = omega (arith, begun_le out s ss f)

pub between_takes : (out : List ℕ) (b : ℕ) (bs : List ℕ) → length (begun out (skipped (b ∷ bs))).left < length (b ∷ bs)
between_takes out b bs = begun_lt out (skipped (b ∷ bs)) (length (b ∷ bs)) (first_skipped (b ∷ bs)) (taken_le (b ∷ bs) _ (in_blanks (b ∷ bs))) (omega arith)

pub comment_takes : (out : List ℕ) (b : ℕ) (bs : List ℕ) → length (begun out (past_comment (b ∷ bs))).left < length (b ∷ bs)
comment_takes out b bs = begun_lt out (past_comment (b ∷ bs)) (length (b ∷ bs)) (first_past (b ∷ bs)) (taken_le (b ∷ bs) _ (in_comment (b ∷ bs))) (omega arith)
