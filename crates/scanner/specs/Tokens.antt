-- A token, piece by piece: each piece goes to the procedure that is open, and the outermost element that ends is the token.
use Rattle.std.specs.Prelude.{ℕ, zero, suc, ◌-◌, Bool, true, false, List, [], length, Some, None, Ok, Err, Option, Result}
use Rattle.names.specs.Names.{join_answer, names_joined}
use Rattle.objects.specs.declared.fault.Fault.{Fault}
use Rattle.objects.specs.declared.fault.Fault.TheVariants.{SyntaxError}
use Rattle.objects.specs.declared.object.Value.TheVariants.{Integer, Name}
use Rattle.scanner.specs.Lexemes.{Piece, ended, opening, closing, integer, name, literal, string, lexeme}
use Rattle.scanner.specs.Stocks.{Procedures, Outcome, going, complete, last, failed, opened, closed, finished, ended_element}
use Rattle.scanner.specs.declared.element.Element.{Element}
use Rattle.scanner.specs.declared.element.Element.TheVariants.{Object, String}
use Rattle.scanner.specs.declared.token.Token.{Token}

-- a name that has joined the name table is an object with its number
abbrev pub named : Bool → Result ℕ Fault → Procedures → Outcome
named executable (Ok number) p = ended_element (Object (record { value = Name number; executable = executable })) p
named executable (Err f) p = failed f

-- one piece of a token; the token had so many string bytes before it and after it
abbrev pub met : Piece → ℕ → ℕ → List (List ℕ) → Procedures → Outcome
met ended before after names p = finished p
met opening before after names p = opened p
met closing before after names p = closed p
met (integer z) before after names p = ended_element (Object (record { value = Integer z; executable = false })) p
met (name text) before after names p = named true (join_answer text names) p
met (literal text) before after names p = named false (join_answer text names) p
met string before after names p = ended_element (String (record { start = before; len = after - before })) p

-- every name joins the name table as it is read
abbrev pub names_met : Piece → List (List ℕ) → List (List ℕ)
names_met (name text) names = names_joined text names
names_met (literal text) names = names_joined text names
names_met x names = names

-- What scanning gives: a token, none at the end of the text, or a refusal; what is to be written into the slots and bytes that the token will take;
-- the name table; and the bytes that are left.
pub record Scanned : Type 0 where
  pub answer : Result (Option Token) Fault
  pub slots : List Element
  pub bytes : List ℕ
  pub names : List (List ℕ)
  pub left : List ℕ

-- a token that is complete, with the procedures and string bytes that were read; the end of the text; a refusal
abbrev pub gives : Element → Procedures → List (List ℕ) → List ℕ → List ℕ → Scanned
gives e p names out bs = record { answer = Ok (Some (record { element = e; slots = length p.shut; bytes = length out })); slots = p.shut; bytes = out; names = names; left = bs }

abbrev pub none : List (List ℕ) → List ℕ → Scanned
none names bs = record { answer = Ok None; slots = []; bytes = []; names = names; left = bs }

abbrev pub refuses : Fault → List (List ℕ) → List ℕ → Scanned
refuses f names bs = record { answer = Err f; slots = []; bytes = []; names = names; left = bs }

abbrev pub by_outcome : Outcome → List (List ℕ) → List ℕ → List ℕ → (Procedures → Scanned) → Scanned
by_outcome (going p) names out bs more = more p
by_outcome (complete e p) names out bs more = gives e p names out bs
by_outcome last names out bs more = none names bs
by_outcome (failed f) names out bs more = refuses f names bs

abbrev pub by_piece : Result Piece Fault → ℕ → List (List ℕ) → Procedures → List ℕ → List ℕ → (List (List ℕ) → Procedures → List ℕ → List ℕ → Scanned) → Scanned
by_piece (Err f) before names p out bs more = refuses f names bs
by_piece (Ok x) before names p out bs more = by_outcome (met x before (length out) names p) (names_met x names) out bs (λ q. more (names_met x names) q out bs)

-- the next piece of a token, and then more
abbrev pub turn : List (List ℕ) → Procedures → List ℕ → List ℕ → (List (List ℕ) → Procedures → List ℕ → List ℕ → Scanned) → Scanned
turn names p out bs more = by_piece (lexeme out bs).said (length out) names p (lexeme out bs).strings (lexeme out bs).left more

-- Piece after piece, until the token is complete or fails. Each piece takes a byte, so as many turns as there are bytes suffice, and one for the end.
unfoldable pub token_on : ℕ → List (List ℕ) → Procedures → List ℕ → List ℕ → Scanned
token_on zero names p out bs = refuses SyntaxError names bs
token_on (suc turns) names p out bs = turn names p out bs (λ names' p' out' bs'. token_on turns names' p' out' bs')

abbrev pub no_procedures : Procedures
no_procedures = record { shut = []; pending = []; count = 0 }

-- what is still to be read of a token, with the procedures and string bytes so far
abbrev pub reading_on : List (List ℕ) → Procedures → List ℕ → List ℕ → Scanned
reading_on names p out bs = token_on (suc (length bs)) names p out bs

-- the next token of the text
abbrev pub by_pieces : List (List ℕ) → List ℕ → Scanned
by_pieces names bs = reading_on names no_procedures [] bs
