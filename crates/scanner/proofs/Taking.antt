-- A piece, and so a token, takes bytes from the front only, and keeps at most 1,024 string bytes.
use Rattle.std.proofs.Common.{ℕ, zero, suc, ◌+◌, ◌-◌, ◌<◌, ◌≤◌, Bool, true, false, cond, ◌&&◌, ◌||◌, eqb, ltb, List, [], ◌∷◌, ◌++◌, length, drop, Ok, Err, Result, refl, ap, ◌∙◌, arith}
use Rattle.std.proofs.lemmas.List.{drop-drop, length_push, length-drop}
use Rattle.std.proofs.lemmas.Bool.{cond_both, ltb-true}
use Rattle.objects.specs.declared.fault.Fault.{Fault}
use Rattle.objects.specs.declared.fault.Fault.TheVariants.{SyntaxError, LimitCheck}
use Rattle.scanner.specs.Bytes.{white, ends_comment, ends_run}
use Rattle.scanner.specs.Laws.{Taken}
use Rattle.scanner.specs.Lexemes.{Piece, ended, opening, closing, name, string, Reading, says, room, escape, lexeme, skipped, past_comment, begun, body, escaped}
use Rattle.scanner.specs.Runs.{past_run}
use Rattle.scanner.specs.Stocks.{Procedures, Outcome, going, complete, last, failed}
use Rattle.scanner.specs.Tokens.{Scanned, met, names_met, by_outcome, by_piece, token_on}

takes_none : (bs : List ℕ) → Taken bs bs
takes_none bs = (0, refl)

takes_more : (b : ℕ) (bs left : List ℕ) → Taken bs left → Taken (b ∷ bs) left
takes_more b bs left h = (suc h.0, h.1)

takes_then : (bs middle left : List ℕ) → Taken bs middle → Taken middle left → Taken bs left
takes_then bs middle left h k = (h.0 + k.0, k.1 ∙ ap (drop k.0) h.1 ∙ drop-drop k.0 h.0 bs)

pub taken_le : (bs left : List ℕ) → Taken bs left → length left ≤ length bs
taken_le bs left h = omega (arith, ap length h.1, length-drop h.0 bs)

pub taken_lt : (b : ℕ) (bs left : List ℕ) → Taken bs left → length left < length (b ∷ bs)
taken_lt b bs left h = omega (arith, taken_le bs left h)

pub either : {A : Type 0} (P : A → Type 0) (t : Bool) (x y : A) → P x → P y → P (cond t x y)
either P true x y h k = h
either P false x y h k = k

-- what is left is a rear of bs, and string bytes are added to those before, up to 1,024
abbrev pub Reads : List ℕ → List ℕ → Reading → Type 0
Reads bs out x = Taken bs x.left × (length out ≤ 1024 → (length out ≤ length x.strings) × (length x.strings ≤ 1024))

here : (bs out : List ℕ) (r : Result Piece Fault) → Reads bs out (says r out bs)
here bs out r = (takes_none bs, λ h. (omega arith, h))

past : (b : ℕ) (bs out : List ℕ) (x : Reading) → Reads bs out x → Reads (b ∷ bs) out x
past b bs out x h = (takes_more b bs x.left h.0, h.1)

pub all : (bs out : List ℕ) (x : Reading) → Reads (drop 1 bs) out x → Reads bs out x
all [] out x h = h
all (b ∷ bs) out x h = past b bs out x h

kept : (bs out : List ℕ) (b : ℕ) (x : Reading) → Reads (drop 1 bs) (out ++ b ∷ []) x → Reads bs out (room out x bs)
kept bs out b x h =
    let k = all bs (out ++ b ∷ []) x h in
    cond_both (ltb (length out) 1024) _ _ (Reads bs out)
    (λ t. (k.0, λ _. let l = k.1 (omega (arith, length_push out b, ltb-true (length out) 1024 t)) in (omega (arith, length_push out b, l.0), l.1)))
    (λ _. here bs out (Err LimitCheck))

mutual
  unfolding body escaped

  -- the first byte is taken, if there is one
  pub in_body : (bs out : List ℕ) (n : ℕ) (r : Bool) → Reads (drop 1 bs) out (body bs out n r)
  in_body [] out n r = here [] out (Err SyntaxError)
  in_body (b ∷ bs) out n r =
      let P = Reads bs out in
      either P (r && eqb b 10) _ _ (all bs out (body bs out n false) (in_body bs out n false))
      (either P (eqb b 41) _ _ (either P (eqb n 0) _ _ (here bs out (Ok string)) (kept bs out b _ (in_body bs (out ++ b ∷ []) (n - 1) false)))
      (either P (eqb b 40) _ _ (kept bs out b _ (in_body bs (out ++ b ∷ []) (n + 1) false))
      (either P (eqb b 92) _ _ (all bs out (escaped bs out n) (in_escaped bs out n))
      (either P (eqb b 13) _ _ (kept bs out 10 _ (in_body bs (out ++ 10 ∷ []) n true)) (kept bs out b _ (in_body bs (out ++ b ∷ []) n false))))))

  pub in_escaped : (bs out : List ℕ) (n : ℕ) → Reads (drop 1 bs) out (escaped bs out n)
  in_escaped [] out n = here [] out (Err SyntaxError)
  in_escaped (b ∷ bs) out n =
      let P = Reads bs out in
      either P (eqb b 10) _ _ (all bs out (body bs out n false) (in_body bs out n false)) (either P (eqb b 13) _ _ (all bs out (body bs out n true) (in_body bs out n true)) (kept bs out (escape b) _ (in_body bs (out ++ escape b ∷ []) n false)))

pub in_run : (bs : List ℕ) → Taken bs (past_run bs)
unfolding past_run
in_run [] = takes_none []
in_run (b ∷ bs) = either (Taken (b ∷ bs)) (ends_run b) _ _ (takes_none (b ∷ bs)) (takes_more b bs _ (in_run bs))

mutual
  unfolding skipped past_comment

  pub in_blanks : (bs : List ℕ) → Taken bs (skipped bs)
  in_blanks [] = takes_none []
  in_blanks (b ∷ bs) = either (Taken (b ∷ bs)) (white b) _ _ (takes_more b bs _ (in_blanks bs)) (either (Taken (b ∷ bs)) (eqb b 37) _ _ (takes_more b bs _ (in_comment bs)) (takes_none (b ∷ bs)))

  pub in_comment : (bs : List ℕ) → Taken bs (past_comment bs)
  in_comment [] = takes_none []
  in_comment (b ∷ bs) = either (Taken (b ∷ bs)) (ends_comment b) _ _ (takes_more b bs _ (in_blanks bs)) (takes_more b bs _ (in_comment bs))

in_piece : (out bs : List ℕ) → Reads bs out (begun out bs)
unfolding begun
in_piece out [] = here [] out (Ok ended)
in_piece out (b ∷ bs) =
    let P = Reads (b ∷ bs) out in
    let one : (r : Result Piece Fault) → P (says r out bs) = λ r. past b bs out (says r out bs) (here bs out r) in
    either P (eqb b 40) _ _ (past b bs out (body bs out 0 false) (all bs out (body bs out 0 false) (in_body bs out 0 false)))
    (either P (eqb b 47) _ _ (takes_more b bs _ (in_run bs), (one (Ok ended)).1)
    (either P (eqb b 91 || eqb b 93) _ _ (one (Ok (name (b ∷ []))))
    (either P (eqb b 123) _ _ (one (Ok opening))
    (either P (eqb b 125) _ _ (one (Ok closing))
    (either P (eqb b 41 || (eqb b 60 || eqb b 62)) _ _ (one (Err SyntaxError)) (in_run (b ∷ bs), (one (Ok ended)).1))))))

pub in_lexeme : (out bs : List ℕ) → Reads bs out (lexeme out bs)
in_lexeme out bs = let h = in_piece out (skipped bs) in (takes_then bs (skipped bs) _ (in_blanks bs) h.0, h.1)

module _ (names : List (List ℕ)) (out bs : List ℕ) where
  by_outcome_takes : (o : Outcome) (more : Procedures → Scanned) → ((q : Procedures) → Taken bs (more q).left) → Taken bs (by_outcome o names out bs more).left
  by_outcome_takes (going q) more h = h q
  by_outcome_takes (complete e q) more h = takes_none bs
  by_outcome_takes last more h = takes_none bs
  by_outcome_takes (failed f) more h = takes_none bs

pub by_piece_takes : (out bs : List ℕ) (r : Result Piece Fault) (before : ℕ) (names : List (List ℕ)) (p : Procedures) (more : List (List ℕ) → Procedures → List ℕ → List ℕ → Scanned) → ((after : List (List ℕ)) (q : Procedures) → Taken bs (more after q out bs).left) → Taken bs (by_piece r before names p out bs more).left
by_piece_takes out bs (Err f) before names p more h = takes_none bs
by_piece_takes out bs (Ok x) before names p more h = by_outcome_takes (names_met x names) out bs (met x before (length out) names p) (λ q. more (names_met x names) q out bs) (h (names_met x names))

pub from_front : (turns : ℕ) (names : List (List ℕ)) (p : Procedures) (out bs : List ℕ) → Taken bs (token_on turns names p out bs).left
unfolding token_on
from_front zero names p out bs = takes_none bs
from_front (suc turns) names p out bs =
    let r = lexeme out bs in
    takes_then bs r.left _ (in_lexeme out bs).0 (by_piece_takes r.strings r.left r.said (length out) names p (token_on turns) (λ after q. from_front turns after q r.strings r.left))
