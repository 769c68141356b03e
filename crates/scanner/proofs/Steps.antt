-- What the definition of a piece does at one byte.
use Rattle.std.proofs.Common.{◌≡◌, ℕ, ◌+◌, ◌-◌, Bool, true, false, cond, ◌&&◌, ◌||◌, eqb, ◌⊎◌, List, [], ◌∷◌, ◌++◌, Some, Ok, Err, Option, Result, sym, refl, ap, ◌∙◌, inl, inr, arith}
use Rattle.std.proofs.lemmas.List.{append-nil, append_assoc, length-append, length-take, length-set, take_more_set}
use Rattle.std.proofs.lemmas.Bool.{cond-true, cond-false}
use Rattle.std.proofs.lemmas.Bool.Decides.{nat_tests}
use Rattle.objects.specs.declared.fault.Fault.{Fault}
use Rattle.objects.specs.declared.fault.Fault.TheVariants.{SyntaxError}
use Rattle.scanner.specs.Bytes.{white, ends_comment, ends_run}
use Rattle.scanner.specs.Lexemes.{Piece, Reading, says, room, escape, skipped, past_comment, begun, body, escaped, plain, slashed, string, name, opening, closing}
use Rattle.scanner.specs.Runs.{run_of, past_run, within_limit, gather, gathered}

begun_cond : (out : List ℕ) (t : Bool) (xs ys : List ℕ) → begun out (cond t xs ys) ≡ cond t (begun out xs) (begun out ys)
begun_cond out true xs ys = refl
begun_cond out false xs ys = refl

pub at_between : (out : List ℕ) (b : ℕ) (bs : List ℕ) → begun out (skipped (b ∷ bs)) ≡ cond (white b) (begun out (skipped bs)) (cond (eqb b 37) (begun out (past_comment bs)) (begun out (b ∷ bs)))
unfolding skipped
at_between out b bs = begun_cond out (white b) (skipped bs) _ ∙ ap (cond (white b) (begun out (skipped bs))) (begun_cond out (eqb b 37) (past_comment bs) (b ∷ bs))

pub at_comment : (out : List ℕ) (b : ℕ) (bs : List ℕ) → begun out (past_comment (b ∷ bs)) ≡ cond (ends_comment b) (begun out (skipped bs)) (begun out (past_comment bs))
unfolding past_comment
at_comment out b bs = begun_cond out (ends_comment b) (skipped bs) (past_comment bs)

-- a run of either kind, byte by byte
module _ (k : Option (List ℕ) → Result Piece Fault) (out : List ℕ) (b : ℕ) (bs : List ℕ) (o : Option (List ℕ)) where
  abbrev From : Option (List ℕ) → List ℕ → Reading
  From o' bs' = says (k (gathered o' (run_of bs'))) out (past_run bs')

  pub at_run : From o (b ∷ bs) ≡ cond (ends_run b) (says (k o) out (b ∷ bs)) (From (gather o b) bs)
  unfolding run_of past_run gathered
  at_run = go (ends_run b)
    where
      go : (t : Bool) → says (k (gathered o (cond t [] (b ∷ run_of bs)))) out (cond t (b ∷ bs) (past_run bs)) ≡ cond t (says (k o) out (b ∷ bs)) (From (gather o b) bs)
      go true = refl
      go false = refl

  -- it ends before the byte, or goes on over it
  pub run_ends : (r : Result Piece Fault) → ends_run b ≡ true → r ≡ k o → says r out (b ∷ bs) ≡ From o (b ∷ bs)
  run_ends r e is = ap (λ x. says x out (b ∷ bs)) is ∙ sym (cond-true _ _ _ e) ∙ sym at_run

  pub run_goes : ends_run b ≡ false → From (gather o b) bs ≡ From o (b ∷ bs)
  run_goes e = sym (cond-false _ _ _ e) ∙ sym at_run

-- a run that is gathered byte by byte is the whole run, or none where it is too long
gather_limit : (xs : List ℕ) (b : ℕ) → gather (within_limit xs) b ≡ within_limit (xs ++ b ∷ [])
gather_limit xs b = grind (arith, nat_tests, length-append)

pub gathered_limit : (xs ys : List ℕ) → gathered (within_limit xs) ys ≡ within_limit (xs ++ ys)
unfolding gathered
gathered_limit xs [] = ap within_limit (sym (append-nil xs))
gathered_limit xs (y ∷ ys) = ap (λ o. gathered o ys) (gather_limit xs y) ∙ gathered_limit (xs ++ y ∷ []) ys ∙ ap within_limit (append_assoc xs (y ∷ []) ys)

pub begun_slash : (out bs : List ℕ) → begun out (47 ∷ bs) ≡ says (slashed (gathered (Some []) (run_of bs))) out (past_run bs)
unfolding begun
begun_slash out bs = ap (λ o. says (slashed o) out (past_run bs)) (sym (gathered_limit [] (run_of bs)))

pub at_begun : (out : List ℕ) (b : ℕ) (bs : List ℕ) → begun out (b ∷ bs) ≡ cond (eqb b 40) (body bs out 0 false) (cond (eqb b 47) (says (slashed (within_limit (run_of bs))) out (past_run bs)) (cond (eqb b 91 || eqb b 93) (says (Ok (name (b ∷ []))) out bs) (cond (eqb b 123) (says (Ok opening) out bs) (cond (eqb b 125) (says (Ok closing) out bs) (cond (eqb b 41 || (eqb b 60 || eqb b 62)) (says (Err SyntaxError) out bs) (says (plain (within_limit (run_of (b ∷ bs)))) out (past_run (b ∷ bs))))))))
unfolding begun
at_begun out b bs = refl

pub regular : (b : ℕ) → ends_run b ≡ false → (white b ≡ false) × (eqb b 37 ≡ false) × (eqb b 40 ≡ false) × (eqb b 47 ≡ false) × ((eqb b 91 || eqb b 93) ≡ false) × (eqb b 123 ≡ false) × (eqb b 125 ≡ false) × ((eqb b 41 || (eqb b 60 || eqb b 62)) ≡ false)
unfolding ends_run
regular b e = (grind (arith, nat_tests), grind (arith, nat_tests), grind (arith, nat_tests), grind (arith, nat_tests), grind (arith, nat_tests), grind (arith, nat_tests), grind (arith, nat_tests), grind (arith, nat_tests))

pub begun_plain : (out : List ℕ) (b : ℕ) (bs : List ℕ) → ends_run b ≡ false → begun out (skipped (b ∷ bs)) ≡ says (plain (gathered (Some (b ∷ [])) (run_of bs))) out (past_run bs)
begun_plain out b bs e =
    let r = regular b e in
    at_between out b bs ∙ cond-false _ _ _ r.0 ∙ cond-false _ _ _ r.1 ∙ at_begun out b bs ∙ cond-false _ _ _ r.2 ∙ cond-false _ _ _ r.3 ∙ cond-false _ _ _ r.4 ∙ cond-false _ _ _ r.5 ∙ cond-false _ _ _ r.6 ∙ cond-false _ _ _ r.7
    ∙ ap (λ o. says (plain o) out (past_run (b ∷ bs))) (sym (gathered_limit [] (run_of (b ∷ bs)))) ∙ sym (run_goes plain out b bs (Some []) e)

pub at_body : (b : ℕ) (bs out : List ℕ) (n : ℕ) (returned : Bool) → body (b ∷ bs) out n returned ≡ cond (returned && eqb b 10) (body bs out n false) (cond (eqb b 41) (cond (eqb n 0) (says (Ok string) out bs) (room out (body bs (out ++ b ∷ []) (n - 1) false) bs)) (cond (eqb b 40) (room out (body bs (out ++ b ∷ []) (n + 1) false) bs) (cond (eqb b 92) (escaped bs out n) (cond (eqb b 13) (room out (body bs (out ++ 10 ∷ []) n true) bs) (room out (body bs (out ++ b ∷ []) n false) bs)))))
unfolding body
at_body b bs out n returned = refl

pub at_escaped : (b : ℕ) (bs out : List ℕ) (n : ℕ) → escaped (b ∷ bs) out n ≡ cond (eqb b 10) (body bs out n false) (cond (eqb b 13) (body bs out n true) (room out (body bs (out ++ escape b ∷ []) n false) bs))
unfolding escaped
at_escaped b bs out n = refl

-- what a byte does, in every state but in a run
pub ruleset at_a_byte = (nat_tests, length-take, at_between, at_comment, at_begun, at_body, at_escaped, begun_slash)

-- one more byte is kept
pub ruleset one_more = (nat_tests, take_more_set, length-take, length-set)
