-- One piece of a token, and then more.
use Rattle.std.specs.Option.{MatchOption, IsSomeAnd}
use Rattle.std.specs.Result.{IsErrAnd}
use Rattle.std.proofs.Common.{Continue, Break, ◌≡◌, ℕ, zero, suc, ◌<◌, ◌≤◌, List, [], ◌∷◌, length, take, Some, None, Ok, Err, Option, Result, sym, refl, ap, ◌∙◌, subst, ⊎_elim, arith}
use Rattle.std.proofs.lemmas.List.{length-take-le}
use Rattle.objects.specs.declared.fault.Fault.{Fault}
use Rattle.scanner.specs.Lexemes.{Piece, ended, says, lexeme}
use Rattle.scanner.specs.Stocks.{Procedures, Outcome, going, complete, last, failed, finished_in, Progress}
use Rattle.scanner.specs.Tokens.{Scanned, met, names_met, gives, by_outcome, by_piece, turn, token_on, reading_on, refuses}
use Rattle.scanner.specs.declared.element.Element.{Element}
use Rattle.scanner.specs.Machine.{Counted}
use Rattle.scanner.specs.Reads.{in_progress, strings_read, went_on, scanned}
use Rattle.scanner.specs.declared.buffers.Buffers.{Buffers}
use Rattle.scanner.specs.declared.counts.Counts.{Counts}
use Rattle.scanner.specs.declared.token.Token.{Token}
use Rattle.scanner.proofs.Shorter.{shorter}

module _ (x : Piece) (out out' bs left : List ℕ) (names : List (List ℕ)) (p : Procedures) (o : Outcome) (before after : ℕ) (read : says (Ok x) out' left ≡ lexeme out bs) (is : o ≡ met x before after names p) where
  pub turned : (names' : List (List ℕ)) (more : List (List ℕ) → Procedures → List ℕ → List ℕ → Scanned) → length out ≡ before → length out' ≡ after → names' ≡ names_met x names → by_outcome o names' out' left (λ q. more names' q out' left) ≡ turn names p out bs more
  turned names' more b a joined =
      let before_it = sym b in
      let after_it = sym a in
      let met_so = is ∙ (λ i. met x (before_it i) (after_it i) names p) in
      (λ i. by_outcome (met_so i) (joined i) out' left (λ q. more (joined i) q out' left)) ∙ ap (λ r. by_piece r.said (length out) names p r.strings r.left more) read

  -- a token that goes on has taken a byte
  finished_stops : (l : List (List Element)) (q : Procedures) → finished_in l ≡ going q → ⊥
  finished_stops [] q e = let z : ◌≡◌ {A = ℕ} 0 1 = cc in omega arith
  finished_stops (es ∷ l) q e = let z : ◌≡◌ {A = ℕ} 0 1 = cc in omega arith

  pub shrinks : (q : Procedures) → o ≡ going q → length left < length bs
  shrinks q goes =
      ⊎_elim
      (λ e.
      let same : x ≡ ended = cc (ap (λ r. r.said) read, e) in
      absurd (finished_stops p.pending q (sym (is ∙ ap (λ y. met y before after names p) same) ∙ goes)))
      (λ h. omega (arith, ap (λ r. length r.left) read))
      (shorter out bs)

-- where the token goes on the same, so does the turn
by_outcome_same : (o : Outcome) (names : List (List ℕ)) (out bs : List ℕ) (f g : Procedures → Scanned) → ((q : Procedures) → f q ≡ g q) → by_outcome o names out bs f ≡ by_outcome o names out bs g
by_outcome_same (going q) names out bs f g h = h q
by_outcome_same (complete e q) names out bs f g h = refl
by_outcome_same last names out bs f g h = refl
by_outcome_same (failed e) names out bs f g h = refl

module _ (before : ℕ) (names : List (List ℕ)) (p : Procedures) (out bs : List ℕ) (f g : List (List ℕ) → Procedures → List ℕ → List ℕ → Scanned) where
  by_piece_same : (r : Result Piece Fault) → ((names' : List (List ℕ)) (q : Procedures) → f names' q out bs ≡ g names' q out bs) → by_piece r before names p out bs f ≡ by_piece r before names p out bs g
  by_piece_same (Ok x) h = by_outcome_same (met x before (length out) names p) (names_met x names) out bs _ _ (h (names_met x names))
  by_piece_same (Err e) h = refl

  -- at the end of the text nothing goes on
  by_end_same : by_piece (Ok ended) before names p out bs f ≡ by_piece (Ok ended) before names p out bs g
  by_end_same = go p.pending
    where
      go : (l : List (List Element)) → by_outcome (finished_in l) names out bs (λ q. f names q out bs) ≡ by_outcome (finished_in l) names out bs (λ q. g names q out bs)
      go [] = refl
      go (es ∷ l) = refl

-- a turn is the same where the token goes on the same with fewer bytes
turn_same : (names : List (List ℕ)) (p : Procedures) (out bs : List ℕ) (f g : List (List ℕ) → Procedures → List ℕ → List ℕ → Scanned) → (let r = lexeme out bs in length r.left < length bs → (names' : List (List ℕ)) (q : Procedures) → f names' q r.strings r.left ≡ g names' q r.strings r.left) → turn names p out bs f ≡ turn names p out bs g
turn_same names p out bs f g h =
    let r = lexeme out bs in
    let P : Result Piece Fault → Type 0 = λ s. by_piece s (length out) names p r.strings r.left f ≡ by_piece s (length out) names p r.strings r.left g in
    ⊎_elim (λ e. subst P (sym e) (by_end_same (length out) names p r.strings r.left f g)) (λ l. by_piece_same (length out) names p r.strings r.left f g r.said (h l)) (shorter out bs)

-- as many turns as there are bytes suffice, and one for the end: more turns give the same
pub enough : (j k : ℕ) (names : List (List ℕ)) (p : Procedures) (out bs : List ℕ) → length bs < j → length bs < k → token_on j names p out bs ≡ token_on k names p out bs
unfolding token_on
enough zero k names p out bs h i = absurd (omega arith)
enough (suc j) zero names p out bs h i = absurd (omega arith)
enough (suc j) (suc k) names p out bs h i =
    let r = lexeme out bs in
    turn_same names p out bs (token_on j) (token_on k) (λ l names' q. enough j k names' q r.strings r.left (omega arith) (omega arith))

-- one turn, and then as many as the rest asks
pub turn_on : (names : List (List ℕ)) (p : Procedures) (out bs : List ℕ) → reading_on names p out bs ≡ turn names p out bs reading_on
unfolding token_on
turn_on names p out bs =
    let r = lexeme out bs in
    turn_same names p out bs (token_on (length bs)) reading_on (λ l names' q. enough (length bs) (suc (length r.left)) names' q r.strings r.left l (omega arith))

-- what is left behind, whatever the answer is
module _ (b : Buffers) (names : List (List ℕ)) (bs : List ℕ) where
  pub scanned_names : (r : Result (Option Token) Fault) → (scanned b r names bs).names ≡ names
  scanned_names (Ok (Some t)) = refl
  scanned_names (Ok None) = refl
  scanned_names (Err f) = refl

  pub scanned_left : (r : Result (Option Token) Fault) → (scanned b r names bs).left ≡ bs
  scanned_left (Ok (Some t)) = refl
  scanned_left (Ok None) = refl
  scanned_left (Err f) = refl

-- a token that is complete says how much it needs
pub completed : (e : Element) (places : List Element) (pending : List (List Element)) (done count bytes : ℕ) (out bs : List ℕ) (names : List (List ℕ)) → done ≤ length places → length out ≡ bytes
    → ◌≡◌ {A = Scanned} (record { answer = Ok (Some (record { element = e; slots = done; bytes = bytes })); slots = take done places; bytes = out; names = names; left = bs }) (gives e (record { shut = take done places; pending = pending; count = count }) names out bs)
completed e places pending done count bytes out bs names fits long =
    let few = sym (length-take-le done places fits) in
    let bytes_read = sym long in
    λ i. record { answer = Ok (Some (record { element = e; slots = few i; bytes = bytes_read i })); slots = take done places; bytes = out; names = names; left = bs }

-- what a piece leads to, where what was read before it gives all
module _ (all : Scanned) (before : List (List ℕ)) (p : Procedures) (out bytes : List ℕ) (so_far : reading_on before p out bytes ≡ all) (b : Buffers) (c : Counts) (names : List (List ℕ)) (bs : List ℕ) where
  abbrev Leads : Result Progress Fault → Type 0
  Leads r = (more : List (List ℕ) → Procedures → List ℕ → List ℕ → Scanned) → went_on b c r names bs more ≡ turn before p out bytes more

  leads_on : (r : Result Progress Fault) → Leads r → went_on b c r names bs reading_on ≡ all
  leads_on r leads = leads reading_on ∙ sym (turn_on before p out bytes) ∙ so_far

  pub fails : (f : Fault) → Leads (Err f) → (x : Result (Option Token) Fault) → IsErrAnd x (λ g. g ≡ f) → scanned b x names bs ≡ all
  fails f leads (Ok t) same = absurd same
  fails f leads (Err g) same = ap (λ h. refuses h names bs) same ∙ leads_on (Err f) leads

  module _ (w : Progress) (leads : Leads (Ok w)) where
    leads_to : (v : Progress) → w ≡ v → went_on b c (Ok v) names bs reading_on ≡ all
    leads_to v is = ap (λ y. went_on b c (Ok y) names bs reading_on) (sym is) ∙ leads_on (Ok w) leads

    pub goes_on : (u : Unit {0}) → w ≡ Continue u → reading_on names (in_progress b c) (strings_read b c) bs ≡ all
    goes_on u is = leads_to (Continue u) is

    pub breaks_off : (o : Option Element) (x : Option Token) (Made : Element → Token → Type 0) → w ≡ Break o → Counted b.lexer c.strings → c.tally.done ≤ length b.stock.done → MatchOption o (x ≡ None) (λ e. IsSomeAnd x (Made e)) → ((e : Element) (t : Token) → Made e t → t ≡ record { element = e; slots = c.tally.done; bytes = c.strings }) → scanned b (Ok x) names bs ≡ all
    breaks_off None x Made is counted fits made same = ap (λ y. scanned b (Ok y) names bs) made ∙ leads_to (Break None) is
    breaks_off (Some e) None Made is counted fits made same = absurd made
    breaks_off (Some e) (Some t) Made is counted fits made same =
        let q = in_progress b c in
        ap (λ y. scanned b (Ok (Some y)) names bs) (same e t made) ∙ completed e b.stock.done q.pending c.tally.done q.count c.strings (strings_read b c) bs names fits counted ∙ leads_to (Break (Some e)) is
