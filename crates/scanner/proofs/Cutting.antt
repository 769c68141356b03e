-- A token hangs on the bytes that it takes, and not on what comes behind them.
use Rattle.std.proofs.Common.{◌≡◌, ℕ, zero, suc, ◌+◌, ◌-◌, ◌<◌, ◌≤◌, Bool, true, false, cond, ◌&&◌, ◌||◌, eqb, ltb, List, [], ◌∷◌, ◌++◌, length, drop, Ok, Err, Option, Result, sym, refl, ap, ◌∙◌, subst, arith}
use Rattle.std.proofs.lemmas.List.{append_cancel_right, length-append, length-drop, drop-append-le}
use Rattle.std.proofs.lemmas.Bool.{cond-true}
use Rattle.objects.specs.declared.fault.Fault.{Fault}
use Rattle.objects.specs.declared.fault.Fault.TheVariants.{SyntaxError, LimitCheck}
use Rattle.scanner.specs.Bytes.{white, ends_comment, ends_run}
use Rattle.scanner.specs.Lexemes.{Piece, opening, closing, name, string, Reading, says, escape, lexeme, skipped, past_comment, begun, body, escaped, plain, slashed}
use Rattle.scanner.specs.Runs.{run_of, past_run, within_limit}
use Rattle.scanner.specs.Laws.{but_left, StandsAlone}
use Rattle.scanner.specs.Stocks.{Procedures, Outcome, going, complete, last, failed}
use Rattle.scanner.specs.Tokens.{Scanned, met, names_met, gives, none, refuses, by_outcome, by_piece, token_on, by_pieces, no_procedures}
use Rattle.scanner.proofs.Grammar.{follows_grammar}
use Rattle.scanner.proofs.Shorter.{between_takes, comment_takes}
use Rattle.scanner.proofs.Steps.{at_between, at_comment}
use Rattle.scanner.proofs.Taking.{taken_lt, in_body, in_escaped, in_lexeme, by_piece_takes, from_front}
use Rattle.scanner.proofs.Turns.{enough}

module _ (b : ℕ) (more : List ℕ) (stop : ends_run b ≡ true) (b' : ℕ) (more' : List ℕ) (stop' : ends_run b' ≡ true) where
  abbrev rest : List ℕ
  rest = b ∷ more

  abbrev rest' : List ℕ
  rest' = b' ∷ more'

  -- two readings that differ in what is left alone
  abbrev Swap : List ℕ → Reading → Reading → Type 0
  Swap f x x' = x.left ≡ f ++ rest → x' ≡ record x { left = f ++ rest' }

  swap_cond : (f : List ℕ) (t : Bool) (x y x' y' : Reading) → Swap f x x' → Swap f y y' → Swap f (cond t x y) (cond t x' y')
  swap_cond f true x y x' y' h k = h
  swap_cond f false x y x' y' h k = k

  swap_here : (f cs : List ℕ) (r : Result Piece Fault) (out : List ℕ) → Swap f (says r out (cs ++ rest)) (says r out (cs ++ rest'))
  swap_here f cs r out e = ap (λ l. says r out (l ++ rest')) (append_cancel_right cs f rest e)

  too_short : (f : List ℕ) (x x' : Reading) → length x.left < length rest → Swap f x x'
  too_short f x x' h e = absurd (omega (arith, ap length e, length-append f rest))

  mutual
    unfolding body escaped

    swap_body : (cs out : List ℕ) (n : ℕ) (r : Bool) (f : List ℕ) → Swap f (body (cs ++ rest) out n r) (body (cs ++ rest') out n r)
    swap_body [] out n r f = too_short f _ _ (taken_lt b more _ (in_body (b ∷ more) out n r).0)
    swap_body (c ∷ cs) out n r f =
        swap_cond f (r && eqb c 10) _ _ _ _ (swap_body cs out n false f)
        (swap_cond f (eqb c 41) _ _ _ _ (swap_cond f (eqb n 0) _ _ _ _ (swap_here f cs (Ok string) out) (swap_cond f (ltb (length out) 1024) _ _ _ _ (swap_body cs (out ++ c ∷ []) (n - 1) false f) (swap_here f cs (Err LimitCheck) out)))
        (swap_cond f (eqb c 40) _ _ _ _ (swap_cond f (ltb (length out) 1024) _ _ _ _ (swap_body cs (out ++ c ∷ []) (n + 1) false f) (swap_here f cs (Err LimitCheck) out))
        (swap_cond f (eqb c 92) _ _ _ _ (swap_escaped cs out n f)
        (swap_cond f (eqb c 13) _ _ _ _ (swap_cond f (ltb (length out) 1024) _ _ _ _ (swap_body cs (out ++ 10 ∷ []) n true f) (swap_here f cs (Err LimitCheck) out)) (swap_cond f (ltb (length out) 1024) _ _ _ _ (swap_body cs (out ++ c ∷ []) n false f) (swap_here f cs (Err LimitCheck) out))))))

    swap_escaped : (cs out : List ℕ) (n : ℕ) (f : List ℕ) → Swap f (escaped (cs ++ rest) out n) (escaped (cs ++ rest') out n)
    swap_escaped [] out n f = too_short f _ _ (taken_lt b more _ (in_escaped (b ∷ more) out n).0)
    swap_escaped (c ∷ cs) out n f =
        swap_cond f (eqb c 10) _ _ _ _ (swap_body cs out n false f)
        (swap_cond f (eqb c 13) _ _ _ _ (swap_body cs out n true f) (swap_cond f (ltb (length out) 1024) _ _ _ _ (swap_body cs (out ++ escape c ∷ []) n false f) (swap_here f cs (Err LimitCheck) out)))

  swap_run : (cs f : List ℕ) → past_run (cs ++ rest) ≡ f ++ rest → (run_of (cs ++ rest') ≡ run_of (cs ++ rest)) × (past_run (cs ++ rest') ≡ f ++ rest')
  unfolding run_of past_run
  swap_run [] f e =
      let none = append_cancel_right [] f rest (sym (cond-true _ _ _ stop) ∙ e) in
      (cond-true _ _ _ stop' ∙ sym (cond-true _ _ _ stop), cond-true _ _ _ stop' ∙ ap (λ l. l ++ rest') none)
  swap_run (c ∷ cs) f e = go (ends_run c) (swap_run cs f) e
    where
      go : (t : Bool) → (past_run (cs ++ rest) ≡ f ++ rest → (run_of (cs ++ rest') ≡ run_of (cs ++ rest)) × (past_run (cs ++ rest') ≡ f ++ rest')) → cond t (c ∷ cs ++ rest) (past_run (cs ++ rest)) ≡ f ++ rest → (cond t [] (c ∷ run_of (cs ++ rest')) ≡ cond t [] (c ∷ run_of (cs ++ rest))) × (cond t (c ∷ cs ++ rest') (past_run (cs ++ rest')) ≡ f ++ rest')
      go true ih i = (refl, ap (λ l. l ++ rest') (append_cancel_right (c ∷ cs) f rest i))
      go false ih i = let m = ih i in (ap (λ l. c ∷ l) m.0, m.1)

  swap_token_run : (k : Option (List ℕ) → Result Piece Fault) (out cs f : List ℕ) → Swap f (says (k (within_limit (run_of (cs ++ rest)))) out (past_run (cs ++ rest))) (says (k (within_limit (run_of (cs ++ rest')))) out (past_run (cs ++ rest')))
  swap_token_run k out cs f e = let m = swap_run cs f e in λ i. says (k (within_limit (m.0 i))) out (m.1 i)

  swap_begun : (c : ℕ) (cs out f : List ℕ) → Swap f (begun out (c ∷ cs ++ rest)) (begun out (c ∷ cs ++ rest'))
  unfolding begun
  swap_begun c cs out f =
      swap_cond f (eqb c 40) _ _ _ _ (swap_body cs out 0 false f)
      (swap_cond f (eqb c 47) _ _ _ _ (swap_token_run slashed out cs f)
      (swap_cond f (eqb c 91 || eqb c 93) _ _ _ _ (swap_here f cs (Ok (name (c ∷ []))) out)
      (swap_cond f (eqb c 123) _ _ _ _ (swap_here f cs (Ok opening) out)
      (swap_cond f (eqb c 125) _ _ _ _ (swap_here f cs (Ok closing) out)
      (swap_cond f (eqb c 41 || (eqb c 60 || eqb c 62)) _ _ _ _ (swap_here f cs (Err SyntaxError) out) (swap_token_run plain out (c ∷ cs) f))))))

  swap_along : (f : List ℕ) (x y x' y' : Reading) → x ≡ y → x' ≡ y' → Swap f y y' → Swap f x x'
  swap_along f x y x' y' h k s e = k ∙ s (ap (λ (r : Reading). r.left) (sym h) ∙ e) ∙ ap (λ (r : Reading). record r { left = f ++ rest' }) (sym h)

  mutual
    swap_between : (cs out f : List ℕ) → Swap f (begun out (skipped (cs ++ rest))) (begun out (skipped (cs ++ rest')))
    swap_between [] out f = too_short f _ _ (between_takes out b more)
    swap_between (c ∷ cs) out f =
        swap_along f _ _ _ _ (at_between out c (cs ++ rest)) (at_between out c (cs ++ rest'))
        (swap_cond f (white c) _ _ _ _ (swap_between cs out f) (swap_cond f (eqb c 37) _ _ _ _ (swap_comment cs out f) (swap_begun c cs out f)))

    swap_comment : (cs out f : List ℕ) → Swap f (begun out (past_comment (cs ++ rest))) (begun out (past_comment (cs ++ rest')))
    swap_comment [] out f = too_short f _ _ (comment_takes out b more)
    swap_comment (c ∷ cs) out f =
        swap_along f _ _ _ _ (at_comment out c (cs ++ rest)) (at_comment out c (cs ++ rest'))
        (swap_cond f (ends_comment c) _ _ _ _ (swap_between cs out f) (swap_comment cs out f))

  -- the same of a whole token
  abbrev Swaps : Scanned → Scanned → Type 0
  Swaps x x' = x.left ≡ rest → x' ≡ but_left x rest'

  no_front : (f : List ℕ) → f ++ rest ≡ rest → f ≡ []
  no_front f e = append_cancel_right f [] rest e

  module _ (names : List (List ℕ)) (out f : List ℕ) where
    swaps_outcome : (o : Outcome) (g : List ℕ → Procedures → Scanned) → ((q : Procedures) → Swaps (g (f ++ rest) q) (g (f ++ rest') q)) → Swaps (by_outcome o names out (f ++ rest) (g (f ++ rest))) (by_outcome o names out (f ++ rest') (g (f ++ rest')))
    swaps_outcome (going q) g h e = h q e
    swaps_outcome (complete x q) g h e = ap (λ l. gives x q names out (l ++ rest')) (no_front f e)
    swaps_outcome last g h e = ap (λ l. none names (l ++ rest')) (no_front f e)
    swaps_outcome (failed x) g h e = ap (λ l. refuses x names (l ++ rest')) (no_front f e)

  swaps_piece : (out f : List ℕ) (s : Result Piece Fault) (before : ℕ) (names : List (List ℕ)) (p : Procedures) (g : List (List ℕ) → Procedures → List ℕ → List ℕ → Scanned) → ((names' : List (List ℕ)) (q : Procedures) → Swaps (g names' q out (f ++ rest)) (g names' q out (f ++ rest')))
      → Swaps (by_piece s before names p out (f ++ rest) g) (by_piece s before names p out (f ++ rest') g)
  swaps_piece out f (Err x) before names p g h e = ap (λ l. refuses x names (l ++ rest')) (no_front f e)
  swaps_piece out f (Ok x) before names p g h e = swaps_outcome (names_met x names) out f (met x before (length out) names p) (λ l q. g (names_met x names) q out l) (h (names_met x names)) e

  swaps_on : (turns : ℕ) (names : List (List ℕ)) (p : Procedures) (out front : List ℕ) → Swaps (token_on turns names p out (front ++ rest)) (token_on turns names p out (front ++ rest'))
  unfolding token_on
  swaps_on zero names p out front e = ap (λ l. refuses SyntaxError names (l ++ rest')) (no_front front e)
  swaps_on (suc turns) names p out front e =
      let r = lexeme out (front ++ rest) in
      let t = (in_lexeme out (front ++ rest)).0 in
      let u = by_piece_takes r.strings r.left r.said (length out) names p (token_on turns) (λ after q. from_front turns after q r.strings r.left) in
      let long : length rest ≤ length r.left = omega (arith, ap length (sym e ∙ u.1), length-drop u.0 r.left) in
      let n = t.0 in
      let few : n ≤ length front = omega (arith, ap length t.1, length-drop n (front ++ rest), length-append front rest) in
      let f = drop n front in
      let cut : r.left ≡ f ++ rest = t.1 ∙ drop-append-le n front rest few in
      let P : List ℕ → Type 0 = λ l. Swaps (by_piece r.said (length out) names p r.strings l (token_on turns)) (by_piece r.said (length out) names p r.strings (f ++ rest') (token_on turns)) in
      let same = subst P (sym cut) (swaps_piece r.strings f r.said (length out) names p (token_on turns) (λ names' q. swaps_on turns names' q r.strings f)) in
      ap (λ (x : Reading). by_piece x.said (length out) names p x.strings x.left (token_on turns)) (swap_between front out f cut) ∙ same e

  pub stands_alone_here : (names : List (List ℕ)) (front : List ℕ) → Swaps (by_pieces names (front ++ rest)) (by_pieces names (front ++ rest'))
  stands_alone_here names front e =
      let turns = suc (length (front ++ rest) + length (front ++ rest')) in
      let left = enough (suc (length (front ++ rest))) turns names no_procedures [] (front ++ rest) (omega arith) (omega arith) in
      let right = enough (suc (length (front ++ rest'))) turns names no_procedures [] (front ++ rest') (omega arith) (omega arith) in
      right ∙ swaps_on turns names no_procedures [] front (ap (λ (s : Scanned). s.left) (sym left) ∙ e) ∙ ap (λ (s : Scanned). but_left s rest') (sym left)

pub stands_alone : StandsAlone
stands_alone names front b more b' more' stop stop' e =
    sym (follows_grammar names (front ++ b' ∷ more'))
    ∙ stands_alone_here b more stop b' more' stop' names front (ap (λ (s : Scanned). s.left) (follows_grammar names (front ++ b ∷ more)) ∙ e)
    ∙ ap (λ (s : Scanned). but_left s (b' ∷ more')) (follows_grammar names (front ++ b ∷ more))
