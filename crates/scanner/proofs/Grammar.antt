-- Reading piece by piece follows the grammar.
use Rattle.std.proofs.Common.{◌≡◌, ℕ, zero, suc, ◌+◌, ◌-◌, ◌<◌, ◌≤◌, Bool, true, false, cond, ltb, List, [], ◌∷◌, ◌++◌, length, Ok, Err, Result, refl, sym, ap, ◌∙◌, subst, ⊎_elim, arith}
use Rattle.names.specs.Names.{join_answer, names_joined}
use Rattle.objects.specs.declared.fault.Fault.{Fault}
use Rattle.objects.specs.declared.fault.Fault.TheVariants.{LimitCheck}
use Rattle.objects.specs.declared.object.Value.TheVariants.{Name}
use Rattle.scanner.specs.Grammar.{Kept, Spelled, whole, broken, and_then, read_to, numbered, one_more, in_procedure, procedure_rest, outermost, by_grammar, at_first, token}
use Rattle.scanner.specs.Lexemes.{Piece, ended, opening, closing, integer, name, literal, string, lexeme}
use Rattle.scanner.specs.Stocks.{Procedures, going, failed, joined_to}
use Rattle.scanner.specs.Tokens.{Scanned, refuses, named, by_outcome, by_piece, by_pieces, reading_on, no_procedures}
use Rattle.scanner.specs.declared.element.Element.{Element}
use Rattle.scanner.specs.declared.element.Element.TheVariants.{Object, String}
use Rattle.scanner.proofs.Taking.{taken_le, in_lexeme}
use Rattle.scanner.proofs.Shorter.{shorter}
use Rattle.scanner.proofs.Turns.{turn_on}

-- the procedures around an element that is whole go on
abbrev after : List (List Element) → Spelled → Scanned
after outer (whole e k) = by_outcome (joined_to e k.shut k.count outer) k.names k.strings k.left (λ p. reading_on k.names p k.strings k.left)
after outer (broken f names bs) = refuses f names bs

abbrev within : List Element → List (List Element) → Kept → Procedures
within mine outer k = record { shut = k.shut; pending = mine ∷ outer; count = k.count }

-- an element takes no bytes back
abbrev Within : ℕ → Spelled → Type 0
Within n (whole e k) = length k.left ≤ n
Within n (broken f names bs) = Unit {0}

within_cond : (n : ℕ) (b : Bool) (x y : Spelled) → Within n x → Within n y → Within n (cond b x y)
within_cond n true x y h i = h
within_cond n false x y h i = i

within_more : (m n : ℕ) (s : Spelled) → m ≤ n → Within m s → Within n s
within_more m n (whole e k) h i = omega arith
within_more m n (broken f names bs) h i = tt

module _ (n : ℕ) (more : List Element → Kept → Spelled) (ih : (mine : List Element) (k : Kept) → Within (length k.left) (more mine k)) where
  within_one : (mine : List Element) (e : Element) (k : Kept) → length k.left ≤ n → Within n (one_more more mine e k)
  within_one mine e k h = within_cond n (ltb k.count 512) _ _ (within_more (length k.left) n _ h (ih (mine ++ e ∷ []) _)) tt

  within_then : (mine : List Element) (s : Spelled) → Within n s → Within n (and_then s (one_more more mine))
  within_then mine (whole e k) h = within_one mine e k h
  within_then mine (broken f names bs) h = tt

within_numbered : (n : ℕ) (executable : Bool) (r : Result ℕ Fault) (names : List (List ℕ)) (k : Kept) → length k.left ≤ n → Within n (numbered executable r names k)
within_numbered n executable (Ok m) names k h = h
within_numbered n executable (Err f) names k h = tt

module _ (n depth before : ℕ) (more : List Element → Kept → Spelled) (inner : Kept → Spelled) (ih : (mine : List Element) (k : Kept) → Within (length k.left) (more mine k)) (deeper : (k : Kept) → Within (length k.left) (inner k)) where
  within_piece : (mine : List Element) (k : Kept) (s : Result Piece Fault) → length k.left ≤ n → Within n (in_procedure more inner depth mine before k s)
  within_piece mine k (Err f) h = tt
  within_piece mine k (Ok ended) h = tt
  within_piece mine k (Ok closing) h = h
  within_piece mine k (Ok opening) h = within_cond n (ltb depth 16) _ _ (within_then n more ih mine (inner k) (within_more (length k.left) n (inner k) h (deeper k))) tt
  within_piece mine k (Ok (integer z)) h = within_one n more ih mine _ k h
  within_piece mine k (Ok (name text)) h = within_then n more ih mine _ (within_numbered n true (join_answer text k.names) _ k h)
  within_piece mine k (Ok (literal text)) h = within_then n more ih mine _ (within_numbered n false (join_answer text k.names) _ k h)
  within_piece mine k (Ok string) h = within_one n more ih mine _ k h

left_le : (out bs : List ℕ) → length (lexeme out bs).left ≤ length bs
left_le out bs = taken_le bs _ (in_lexeme out bs).0

within_procedure : (turns depth : ℕ) (mine : List Element) (k : Kept) → Within (length k.left) (procedure_rest turns depth mine k)
unfolding procedure_rest
within_procedure zero depth mine k = tt
within_procedure (suc turns) depth mine k =
    within_piece (length k.left) depth (length k.strings) (procedure_rest turns depth) (procedure_rest turns (suc depth) []) (within_procedure turns depth) (within_procedure turns (suc depth) []) mine (read_to k (lexeme k.strings k.left)) (lexeme k.strings k.left).said (left_le k.strings k.left)

-- the rest of a procedure, with turns enough, is what reading goes on with
abbrev Goes : ℕ → Type 0
Goes turns = (outer : List (List Element)) (mine : List Element) (k : Kept) → length k.left < turns → reading_on k.names (within mine outer k) k.strings k.left ≡ after outer (procedure_rest turns (suc (length outer)) mine k)

module _ (turns : ℕ) (ih : Goes turns) (outer : List (List Element)) (mine : List Element) where
  one_goes : (e : Element) (k : Kept) → length k.left < turns → after (mine ∷ outer) (whole e k) ≡ after outer (one_more (procedure_rest turns (suc (length outer))) mine e k)
  one_goes e k h = go (ltb k.count 512)
    where
      go : (b : Bool) → by_outcome (cond b (going (record { shut = k.shut; pending = (mine ++ e ∷ []) ∷ outer; count = k.count + 1 })) (failed LimitCheck)) k.names k.strings k.left (λ p. reading_on k.names p k.strings k.left)
          ≡ after outer (cond b (procedure_rest turns (suc (length outer)) (mine ++ e ∷ []) (record k { count = k.count + 1 })) (broken LimitCheck k.names k.left))
      go true = ih outer (mine ++ e ∷ []) (record k { count = k.count + 1 }) h
      go false = refl

  then_goes : (n : ℕ) (s : Spelled) → Within n s → n < turns → after (mine ∷ outer) s ≡ after outer (and_then s (one_more (procedure_rest turns (suc (length outer))) mine))
  then_goes n (whole e k) h few = one_goes e k (omega arith)
  then_goes n (broken f names bs) h few = refl

  named_goes : (executable : Bool) (r : Result ℕ Fault) (names : List (List ℕ)) (k : Kept) → length k.left < turns
      → by_outcome (named executable r (within mine outer k)) names k.strings k.left (λ q. reading_on names q k.strings k.left) ≡ after outer (and_then (numbered executable r names k) (one_more (procedure_rest turns (suc (length outer))) mine))
  named_goes executable (Ok m) names k h = one_goes (Object (record { value = Name m; executable = executable })) (record k { names = names }) h
  named_goes executable (Err f) names k h = refl

  piece_goes : (before : ℕ) (k : Kept) (s : Result Piece Fault) → length k.left < turns
      → by_piece s before k.names (within mine outer k) k.strings k.left reading_on ≡ after outer (in_procedure (procedure_rest turns (suc (length outer))) (procedure_rest turns (suc (suc (length outer))) []) (suc (length outer)) mine before k s)
  piece_goes before k (Err f) h = refl
  piece_goes before k (Ok ended) h = refl
  piece_goes before k (Ok closing) h = refl
  piece_goes before k (Ok opening) h = go (ltb (suc (length outer)) 16)
    where
      go : (b : Bool) → by_outcome (cond b (going (within [] (mine ∷ outer) k)) (failed LimitCheck)) k.names k.strings k.left (λ q. reading_on k.names q k.strings k.left)
          ≡ after outer (cond b (and_then (procedure_rest turns (suc (suc (length outer))) [] k) (one_more (procedure_rest turns (suc (length outer))) mine)) (broken LimitCheck k.names k.left))
      go true = ih (mine ∷ outer) [] k h ∙ then_goes (length k.left) (procedure_rest turns (suc (suc (length outer))) [] k) (within_procedure turns (suc (suc (length outer))) [] k) h
      go false = refl
  piece_goes before k (Ok (integer z)) h = one_goes _ k h
  piece_goes before k (Ok (name text)) h = named_goes true (join_answer text k.names) (names_joined text k.names) k h
  piece_goes before k (Ok (literal text)) h = named_goes false (join_answer text k.names) (names_joined text k.names) k h
  piece_goes before k (Ok string) h = one_goes _ k h

inside : (turns : ℕ) → Goes turns
unfolding procedure_rest
inside zero outer mine k h = absurd (omega arith)
inside (suc turns) outer mine k h =
    let r = lexeme k.strings k.left in
    let P : Result Piece Fault → Type 0 = λ s. by_piece s (length k.strings) k.names (within mine outer k) r.strings r.left reading_on ≡ after outer (in_procedure (procedure_rest turns (suc (length outer))) (procedure_rest turns (suc (suc (length outer))) []) (suc (length outer)) mine (length k.strings) (read_to k r) s) in
    turn_on k.names (within mine outer k) k.strings k.left
    ∙ ⊎_elim (λ e. subst P (sym e) refl) (λ l. piece_goes turns (inside turns) outer mine (length k.strings) (read_to k r) r.said (omega arith)) (shorter k.strings k.left)

-- outside of procedures
after_none : (s : Spelled) → after [] s ≡ outermost s
after_none (whole e k) = refl
after_none (broken f names bs) = refl

module _ (names : List (List ℕ)) (out bs : List ℕ) where
  abbrev first_kept : List (List ℕ) → Kept
  first_kept names' = record { names = names'; shut = []; count = 0; strings = out; left = bs }

  name_first : (executable : Bool) (r : Result ℕ Fault) (names' : List (List ℕ)) → by_outcome (named executable r no_procedures) names' out bs (λ q. reading_on names' q out bs) ≡ outermost (numbered executable r names' (first_kept names))
  name_first executable (Ok m) names' = refl
  name_first executable (Err f) names' = refl

  first_goes : (turns : ℕ) (s : Result Piece Fault) → length bs < turns → by_piece s 0 names no_procedures out bs reading_on ≡ by_grammar turns (first_kept names) s
  first_goes turns (Err f) h = refl
  first_goes turns (Ok ended) h = refl
  first_goes turns (Ok closing) h = refl
  first_goes turns (Ok opening) h = inside turns [] [] (first_kept names) h ∙ after_none (procedure_rest turns 1 [] (first_kept names))
  first_goes turns (Ok (integer z)) h = refl
  first_goes turns (Ok (name text)) h = name_first true (join_answer text names) (names_joined text names)
  first_goes turns (Ok (literal text)) h = name_first false (join_answer text names) (names_joined text names)
  first_goes turns (Ok string) h = let e : length out - 0 ≡ length out = omega arith in ap (λ n. outermost (whole (String (record { start = 0; len = n })) (first_kept names))) e

-- reading piece by piece gives the token that the grammar has
pub follows_grammar : (names : List (List ℕ)) (bs : List ℕ) → by_pieces names bs ≡ token names bs
follows_grammar names bs =
    let r = lexeme [] bs in
    let P : Result Piece Fault → Type 0 = λ s. by_piece s 0 names no_procedures r.strings r.left reading_on ≡ by_grammar (length bs) (read_to (at_first names bs) r) s in
    turn_on names no_procedures [] bs ∙ ⊎_elim (λ e. subst P (sym e) refl) (first_goes names r.strings r.left (length bs) r.said) (shorter [] bs)
