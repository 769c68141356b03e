-- The text of an integer is read as that integer.
use Rattle.std.proofs.Common.{◌≡◌, ℕ, suc, ◌^◌, ◌<◌, ◌≤◌, true, false, List, [], ◌∷◌, ◌++◌, length, ℤ, pos, negsuc, Some, Ok, decimal, sym, refl, ap, ◌∙◌, arith, w32, SFits}
use Rattle.std.specs.Char.{is_ascii_digit}
use Rattle.std.specs.Str.{all_ascii_digits}
use Rattle.std.proofs.lemmas.Fmt.{digits_decimal, decimal_nonempty, length-decimal-le}
use Rattle.std.proofs.lemmas.List.{append-nil}
use Rattle.std.proofs.lemmas.Str.Parse.{numerals_by_value, tells_all_ascii_digits}
use Rattle.std.proofs.lemmas.Bool.{cond-true, cond-false, and_parts, le-leb}
use Rattle.std.proofs.lemmas.Bool.Decides.{nat_tests}
use Rattle.objects.proofs.Integers.{text_read}
use Rattle.objects.specs.Decimals.{integer_text}
use Rattle.scanner.specs.Bytes.{ends_run}
use Rattle.scanner.specs.Laws.{DecimalsReturn, integer_token}
use Rattle.scanner.specs.Lexemes.{lexeme, says, plain, of_kind, integer}
use Rattle.scanner.specs.Runs.{run_of, past_run, gathered}
use Rattle.scanner.specs.Grammar.{token}
use Rattle.scanner.specs.Tokens.{token_on, no_procedures, by_piece}
use Rattle.scanner.proofs.Grammar.{follows_grammar}
use Rattle.scanner.proofs.Steps.{begun_plain, gathered_limit}

-- no byte ends a run
abbrev Regular : List ℕ → Type 0
Regular [] = Unit {0}
Regular (b ∷ bs) = (ends_run b ≡ false) × Regular bs

-- a run ends here
abbrev Stops : List ℕ → Type 0
Stops [] = Unit {0}
Stops (b ∷ bs) = ends_run b ≡ true

stop_run : (rest : List ℕ) → Stops rest → (run_of rest ≡ []) × (past_run rest ≡ rest)
unfolding run_of past_run
stop_run [] h = (refl, refl)
stop_run (b ∷ bs) h = (cond-true _ _ _ h, cond-true _ _ _ h)

whole_run : (xs rest : List ℕ) → Regular xs → Stops rest → (run_of (xs ++ rest) ≡ xs) × (past_run (xs ++ rest) ≡ rest)
unfolding run_of past_run
whole_run [] rest h s = stop_run rest s
whole_run (x ∷ xs) rest h s =
    let more = whole_run xs rest h.1 s in
    (cond-false _ _ _ h.0 ∙ ap (λ l. x ∷ l) more.0, cond-false _ _ _ h.0 ∙ more.1)

plain_run : (xs rest : List ℕ) → Regular xs → 0 < length xs → length xs ≤ 128 → Stops rest → lexeme [] (xs ++ rest) ≡ says (plain (Some xs)) [] rest
plain_run [] rest h some few s = absurd (omega arith)
plain_run (x ∷ xs) rest h some few s =
    let more = whole_run xs rest h.1 s in
    begun_plain [] x (xs ++ rest) h.0
    ∙ ap (λ l. says (plain (gathered (Some (x ∷ [])) l)) [] (past_run (xs ++ rest))) more.0
    ∙ ap (λ l. says (plain (gathered (Some (x ∷ [])) xs)) [] l) more.1
    ∙ ap (λ o. says (plain o) [] rest) (gathered_limit (x ∷ []) xs ∙ cond-true _ _ _ (le-leb (length (x ∷ xs)) 128 few))

-- digits and a minus sign are regular
regular_digit : (b : ℕ) → is_ascii_digit b ≡ true → ends_run b ≡ false
unfolding ends_run
regular_digit b e = grind (arith, nat_tests)

regular_digits : (ds : List ℕ) → all_ascii_digits ds ≡ true → Regular ds
regular_digits [] e = tt
regular_digits (d ∷ ds) e = let both = and_parts (is_ascii_digit d) (all_ascii_digits ds) e in (regular_digit d both.0, regular_digits ds both.1)

regular_decimal : (n : ℕ) → n < 2 ^ 64 → Regular (decimal n)
regular_decimal n h = regular_digits (decimal n) (digits_decimal (numerals_by_value _ tells_all_ascii_digits) n h)

regular_text : (z : ℤ) → SFits w32 z → Regular (integer_text z) × (0 < length (integer_text z)) × (length (integer_text z) ≤ 128)
unfolding ends_run
regular_text (pos n) h =
    let small : n < 10 ^ 10 = omega (arith, h.sfits) in
    (regular_decimal n (omega arith), decimal_nonempty n (omega arith), omega (arith, length-decimal-le 10 n (omega arith) small (omega arith)))
regular_text (negsuc n) h =
    let small : suc n < 10 ^ 10 = omega (arith, h.sfits) in
    ((refl, regular_decimal (suc n) (omega arith)), omega arith, omega (arith, length-decimal-le 10 (suc n) (omega arith) small (omega arith)))

integer_piece : (z : ℤ) → SFits w32 z → (rest : List ℕ) → Stops rest → lexeme [] (integer_text z ++ rest) ≡ says (Ok (integer z)) [] rest
integer_piece z h rest s =
    let text = integer_text z in
    let r = regular_text z h in
    plain_run text rest r.0 r.1 r.2 s ∙ ap (λ k. says (of_kind text k) [] rest) (text_read z h)

before_stop : (z : ℤ) → SFits w32 z → (names : List (List ℕ)) (rest : List ℕ) → Stops rest → token names (integer_text z ++ rest) ≡ integer_token z names rest
unfolding token_on
before_stop z h names rest s = sym (follows_grammar names (integer_text z ++ rest)) ∙ ap (λ r. by_piece r.said 0 names no_procedures r.strings r.left (token_on (length (integer_text z ++ rest)))) (integer_piece z h rest s)

pub decimals_return : DecimalsReturn
decimals_return = record {
  alone = λ z h names. ap (token names) (sym (append-nil (integer_text z))) ∙ before_stop z h names [] tt;
  before = λ z h names b bs e. before_stop z h names (b ∷ bs) e;
}
