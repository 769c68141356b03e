-- A token's places lie inside what it takes.
use Rattle.std.proofs.Common.{◌≡◌, ℕ, zero, suc, ◌+◌, ◌≤◌, Bool, true, false, ltb, List, [], ◌∷◌, ◌++◌, length, Ok, Err, Result, refl, arith}
use Rattle.std.specs.List.{AllByRecursion}
use Rattle.std.proofs.ByRecursion.{All-append, All-push, All-weaker}
use Rattle.std.proofs.lemmas.List.{length_push, length-append}
use Rattle.std.proofs.lemmas.Bool.{cond_both, ltb-true}
use Rattle.names.specs.Names.{join_answer}
use Rattle.objects.specs.declared.fault.Fault.{Fault}
use Rattle.objects.specs.declared.object.Value.TheVariants.{Name}
use Rattle.scanner.specs.Lexemes.{Piece, ended, opening, closing, integer, name, literal, string, lexeme}
use Rattle.scanner.specs.Sound.{Inside, Sound}
use Rattle.scanner.specs.Stocks.{Procedures, Outcome, going, complete, last, failed, opened, joined_to, closed_over, finished_in}
use Rattle.scanner.specs.Tokens.{Scanned, named, met, names_met, by_outcome, by_piece, token_on, by_pieces, no_procedures}
use Rattle.scanner.specs.declared.element.Element.{Element}
use Rattle.scanner.specs.declared.element.Element.TheVariants.{Object, String, Procedure}
use Rattle.scanner.proofs.Taking.{in_lexeme}

inside_more : (a a' b b' : ℕ) → a ≤ a' → b ≤ b' → (e : Element) → Inside a b e → Inside a' b' e
inside_more a a' b b' h k (Object o) i = tt
inside_more a a' b b' h k (String s) i = omega arith
inside_more a a' b b' h k (Procedure s) i = omega arith

abbrev total : List (List Element) → ℕ
total [] = 0
total (es ∷ l) = length es + total l

abbrev Pends : ℕ → ℕ → List (List Element) → Type 0
Pends a b l = AllByRecursion (AllByRecursion (Inside a b)) l

all_more : (a a' b b' : ℕ) → a ≤ a' → b ≤ b' → (es : List Element) → AllByRecursion (Inside a b) es → AllByRecursion (Inside a' b') es
all_more a a' b b' h k es i = All-weaker (Inside a b) (Inside a' b') (inside_more a a' b b' h k) es i

pends_more : (a a' b b' : ℕ) → a ≤ a' → b ≤ b' → (l : List (List Element)) → Pends a b l → Pends a' b' l
pends_more a a' b b' h k l i = All-weaker (AllByRecursion (Inside a b)) (AllByRecursion (Inside a' b')) (all_more a a' b b' h k) l i

-- all elements so far lie inside, and are counted
record Well (p : Procedures) (bytes : ℕ) : Type 0 where
  inner : AllByRecursion (Inside (length p.shut) bytes) p.shut
  around : Pends (length p.shut) bytes p.pending
  counted : length p.shut + total p.pending ≡ p.count
  few : p.count ≤ 512

abbrev Wells : ℕ → Outcome → Type 0
Wells n (going p) = Well p n
Wells n (complete e p) = Well p n × Inside (length p.shut) n e
Wells n last = Unit {0}
Wells n (failed f) = Unit {0}

well_more : (p : Procedures) (n m : ℕ) → n ≤ m → Well p n → Well p m
well_more p n m h w = record {
  inner = all_more (length p.shut) (length p.shut) n m (omega arith) h p.shut w.inner;
  around = pends_more (length p.shut) (length p.shut) n m (omega arith) h p.pending w.around;
  counted = w.counted;
  few = w.few;
}

joined_well : (n : ℕ) (e : Element) (shut : List Element) (count : ℕ) (l : List (List Element)) → Well (record { shut = shut; pending = l; count = count }) n → Inside (length shut) n e → Wells n (joined_to e shut count l)
joined_well n e shut count [] w i = (w, i)
joined_well n e shut count (es ∷ outer) w i =
    cond_both (ltb count 512) _ _ (Wells n)
    (λ t. record {
      inner = w.inner;
      around = (All-push (Inside (length shut) n) es e w.around.0 i, w.around.1);
      counted = omega (arith, w.counted, length_push es e);
      few = omega (arith, ltb-true count 512 t);
    })
    (λ _. tt)

opened_well : (n : ℕ) (p : Procedures) → Well p n → Wells n (opened p)
opened_well n p w =
    cond_both (ltb (length p.pending) 16) _ _ (Wells n) (λ _. record { inner = w.inner; around = (tt, w.around); counted = omega (arith, w.counted); few = w.few }) (λ _. tt)

closed_well : (n : ℕ) (shut : List Element) (count : ℕ) (l : List (List Element)) → Well (record { shut = shut; pending = l; count = count }) n → Wells n (closed_over shut count l)
closed_well n shut count [] w = tt
closed_well n shut count (es ∷ outer) w =
    let longer = length-append shut es in
    let up : length shut ≤ length (shut ++ es) = omega (arith, longer) in
    let same : n ≤ n = omega arith in
    joined_well n (Procedure (record { start = length shut; len = length es })) (shut ++ es) count outer
    (record {
      inner = All-append (Inside (length (shut ++ es)) n) shut es (all_more (length shut) (length (shut ++ es)) n n up same shut w.inner) (all_more (length shut) (length (shut ++ es)) n n up same es w.around.0);
      around = pends_more (length shut) (length (shut ++ es)) n n up same outer w.around.1;
      counted = omega (arith, longer, w.counted);
      few = w.few;
    })
    (omega (arith, longer))

finished_well : (n : ℕ) (l : List (List Element)) → Wells n (finished_in l)
finished_well n [] = tt
finished_well n (es ∷ l) = tt

named_well : (n : ℕ) (executable : Bool) (r : Result ℕ Fault) (p : Procedures) → Well p n → Wells n (named executable r p)
named_well n executable (Ok m) p w = joined_well n (Object (record { value = Name m; executable = executable })) p.shut p.count p.pending w tt
named_well n executable (Err f) p w = tt

met_well : (x : Piece) (before after : ℕ) (names : List (List ℕ)) (p : Procedures) → before ≤ after → Well p before → Wells after (met x before after names p)
met_well ended before after names p h w = finished_well after p.pending
met_well opening before after names p h w = opened_well after p (well_more p before after h w)
met_well closing before after names p h w = closed_well after p.shut p.count p.pending (well_more p before after h w)
met_well (integer z) before after names p h w = joined_well after _ p.shut p.count p.pending (well_more p before after h w) tt
met_well (name text) before after names p h w = named_well after true (join_answer text names) p (well_more p before after h w)
met_well (literal text) before after names p h w = named_well after false (join_answer text names) p (well_more p before after h w)
met_well string before after names p h w = joined_well after _ p.shut p.count p.pending (well_more p before after h w) (omega arith)

-- a token that is complete is whole
module _ (names : List (List ℕ)) (out bs : List ℕ) (few : length out ≤ 1024) where
  by_outcome_sound : (o : Outcome) (more : Procedures → Scanned) → Wells (length out) o → ((q : Procedures) → Well q (length out) → Sound (more q)) → Sound (by_outcome o names out bs more)
  by_outcome_sound (going q) more w f = f q w
  by_outcome_sound (complete e q) more w f = record {
    slots_told = refl;
    bytes_told = refl;
    few_slots = omega (arith, w.0.counted, w.0.few);
    few_bytes = few;
    itself = w.1;
    each = w.0.inner;
  }
  by_outcome_sound last more w f = tt
  by_outcome_sound (failed e) more w f = tt

by_piece_sound : (out bs : List ℕ) → length out ≤ 1024 → (r : Result Piece Fault) (before : ℕ) (names : List (List ℕ)) (p : Procedures) → before ≤ length out → Well p before → (more : List (List ℕ) → Procedures → List ℕ → List ℕ → Scanned) → ((after : List (List ℕ)) (q : Procedures) → Well q (length out) → Sound (more after q out bs)) → Sound (by_piece r before names p out bs more)
by_piece_sound out bs few (Err f) before names p h w more g = tt
by_piece_sound out bs few (Ok x) before names p h w more g = by_outcome_sound (names_met x names) out bs few (met x before (length out) names p) (λ q. more (names_met x names) q out bs) (met_well x before (length out) names p h w) (g (names_met x names))

sound_on : (turns : ℕ) (names : List (List ℕ)) (p : Procedures) (out bs : List ℕ) → length out ≤ 1024 → Well p (length out) → Sound (token_on turns names p out bs)
unfolding token_on
sound_on zero names p out bs few w = tt
sound_on (suc turns) names p out bs few w =
    let k = (in_lexeme out bs).1 few in
    let r = lexeme out bs in
    by_piece_sound r.strings r.left k.1 r.said (length out) names p k.0 w (token_on turns) (λ after q v. sound_on turns after q r.strings r.left k.1 v)

pub pieces_sound : (names : List (List ℕ)) (bs : List ℕ) → Sound (by_pieces names bs)
pieces_sound names bs = sound_on (suc (length bs)) names no_procedures [] bs (omega arith) (record { inner = tt; around = tt; counted = refl; few = omega arith })
