-- The laws of scanning.
use Rattle.std.proofs.Common.{◌≡◌, ℕ, zero, suc, List, [], ◌∷◌, ◌++◌, length, take, Ok, Err, Result, sym, refl, ap, ◌∙◌}
use Rattle.std.proofs.lemmas.List.{append_assoc}
use Rattle.std.proofs.lemmas.Bool.{cond-true, cond-false}
use Rattle.names.specs.Names.{names_after}
use Rattle.objects.specs.declared.fault.Fault.{Fault}
use Rattle.scanner.specs.Grammar.{read_to, in_procedure, procedure_rest}
use Rattle.scanner.specs.Laws.{Remark, silent, word, Blank, nothing, space, comment, BlanksVanish, with_name, names_on, NamesJoin}
use Rattle.scanner.specs.Lexemes.{Piece, ended, opening, closing, integer, name, literal, string, Reading, lexeme, begun, skipped, past_comment}
use Rattle.scanner.specs.Stocks.{Procedures, Outcome, going, complete, last, failed, finished_in}
use Rattle.scanner.specs.Tokens.{Scanned, met, names_met, by_outcome, by_piece, token_on, reading_on, by_pieces, no_procedures}
use Rattle.scanner.specs.declared.element.Element.{Element}
use Rattle.scanner.proofs.Grammar.{follows_grammar}
use Rattle.scanner.proofs.Turns.{turn_on}

-- blanks are passed over
past_remark : (remark : List ℕ) (bs : List ℕ) → Remark remark → past_comment (remark ++ bs) ≡ past_comment bs
unfolding past_comment
past_remark _ bs silent = refl
past_remark _ bs (word b r e h) = cond-false _ _ _ e ∙ past_remark r bs h

skipped_blank : (blank : List ℕ) (bs : List ℕ) → Blank blank → skipped (blank ++ bs) ≡ skipped bs
unfolding skipped past_comment
skipped_blank _ bs nothing = refl
skipped_blank _ bs (space b r e h) = cond-true _ _ _ e ∙ skipped_blank r bs h
skipped_blank _ bs (comment remark b r silence e h) =
    ap past_comment (append_assoc remark (b ∷ r) bs) ∙ past_remark remark (b ∷ r ++ bs) silence ∙ cond-true _ _ _ e ∙ skipped_blank r bs h

lexeme_blank : (out blank bs : List ℕ) → Blank blank → lexeme out (blank ++ bs) ≡ lexeme out bs
lexeme_blank out blank bs h = ap (begun out) (skipped_blank blank bs h)

pieces_blank : (blank : List ℕ) → Blank blank → (names : List (List ℕ)) (bs : List ℕ) → by_pieces names (blank ++ bs) ≡ by_pieces names bs
pieces_blank blank h names bs =
    turn_on names no_procedures [] (blank ++ bs) ∙ ap (λ (r : Reading). by_piece r.said 0 names no_procedures r.strings r.left reading_on) (lexeme_blank [] blank bs h) ∙ sym (turn_on names no_procedures [] bs)

pub blanks_vanish : BlanksVanish
unfolding procedure_rest
blanks_vanish = record {
  before = λ blank h names bs. sym (follows_grammar names (blank ++ bs)) ∙ pieces_blank blank h names bs ∙ follows_grammar names bs;
  inside = λ blank h turns depth mine k bs.
      ap (λ (r : Reading). in_procedure (procedure_rest turns depth) (procedure_rest turns (suc depth) []) depth mine (length k.strings) (read_to k r) r.said) (lexeme_blank k.strings blank bs h);
}

-- after joins the first so many texts to before
abbrev Joins : List (List ℕ) → List (List ℕ) → List (List ℕ) → Type 0
Joins texts before after = (k : ℕ) × (after ≡ names_after (take k texts) before)

joins_none : (texts names : List (List ℕ)) → Joins texts names names
unfolding names_after
joins_none texts names = (0, refl)

-- the names that a piece brings
abbrev brings : Piece → List (List ℕ) → List (List ℕ)
brings (name text) rest = text ∷ rest
brings (literal text) rest = text ∷ rest
brings x rest = rest

joins_on : (x : Piece) (rest names after : List (List ℕ)) → Joins rest (names_met x names) after → Joins (brings x rest) names after
unfolding names_after
joins_on ended rest names after h = h
joins_on opening rest names after h = h
joins_on closing rest names after h = h
joins_on (integer z) rest names after h = h
joins_on (name text) rest names after h = (suc h.0, h.1)
joins_on (literal text) rest names after h = (suc h.0, h.1)
joins_on string rest names after h = h

module _ (out bs : List ℕ) (texts : List (List ℕ)) where
  joins_by_outcome : (names : List (List ℕ)) (o : Outcome) (more : Procedures → Scanned) → ((q : Procedures) → Joins texts names (more q).names) → Joins texts names (by_outcome o names out bs more).names
  joins_by_outcome names (going q) more h = h q
  joins_by_outcome names (complete e q) more h = joins_none texts names
  joins_by_outcome names last more h = joins_none texts names
  joins_by_outcome names (failed f) more h = joins_none texts names

  joins_at_end : (names : List (List ℕ)) (l : List (List Element)) (more : Procedures → Scanned) → Joins [] names (by_outcome (finished_in l) names out bs more).names
  joins_at_end names [] more = joins_none [] names
  joins_at_end names (es ∷ l) more = joins_none [] names

  joins_by : (x : Piece) (before : ℕ) (names : List (List ℕ)) (p : Procedures) (more : List (List ℕ) → Procedures → List ℕ → List ℕ → Scanned) → ((after : List (List ℕ)) (q : Procedures) → Joins texts after (more after q out bs).names) → Joins (brings x texts) names (by_piece (Ok x) before names p out bs more).names
  joins_by x before names p more h = joins_on x texts names _ (joins_by_outcome (names_met x names) (met x before (length out) names p) (λ q. more (names_met x names) q out bs) (h (names_met x names)))

  joins_by_piece : (r : Result Piece Fault) (before : ℕ) (names : List (List ℕ)) (p : Procedures) (more : List (List ℕ) → Procedures → List ℕ → List ℕ → Scanned) → ((after : List (List ℕ)) (q : Procedures) → Joins texts after (more after q out bs).names) → Joins (with_name r texts) names (by_piece r before names p out bs more).names
  joins_by_piece (Err f) before names p more h = joins_none [] names
  joins_by_piece (Ok ended) before names p more h = joins_at_end names p.pending (λ q. more names q out bs)
  joins_by_piece (Ok opening) before names p more h = joins_by opening before names p more h
  joins_by_piece (Ok closing) before names p more h = joins_by closing before names p more h
  joins_by_piece (Ok (integer z)) before names p more h = joins_by (integer z) before names p more h
  joins_by_piece (Ok (name text)) before names p more h = joins_by (name text) before names p more h
  joins_by_piece (Ok (literal text)) before names p more h = joins_by (literal text) before names p more h
  joins_by_piece (Ok string) before names p more h = joins_by string before names p more h

names_joined_on : (turns : ℕ) (names : List (List ℕ)) (p : Procedures) (out bs : List ℕ) → Joins (names_on turns out bs) names (token_on turns names p out bs).names
unfolding token_on names_on
names_joined_on zero names p out bs = joins_none [] names
names_joined_on (suc turns) names p out bs =
    let r = lexeme out bs in
    joins_by_piece r.strings r.left (names_on turns r.strings r.left) r.said (length out) names p (token_on turns) (λ after q. names_joined_on turns after q r.strings r.left)

pub names_join : (names : List (List ℕ)) (bs : List ℕ) → NamesJoin bs names (by_pieces names bs).names
names_join names bs = names_joined_on (suc (length bs)) names no_procedures [] bs
