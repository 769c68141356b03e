-- What holds of scanning, above its definition.
use Rattle.std.specs.Prelude.{◌≡◌, ℕ, zero, suc, true, false, List, [], ◌∷◌, ◌++◌, length, take, drop, ℤ, Ok, Err, Result, FitsSigned}
use Rattle.std.specs.Int.{w32}
use Rattle.names.specs.Names.{names_after}
use Rattle.objects.specs.Decimals.{integer_text}
use Rattle.objects.specs.declared.fault.Fault.{Fault}
use Rattle.objects.specs.declared.object.Value.TheVariants.{Integer}
use Rattle.scanner.specs.Bytes.{white, ends_comment, ends_run}
use Rattle.scanner.specs.Lexemes.{Piece, ended, name, literal, lexeme}
use Rattle.scanner.specs.Grammar.{Kept, procedure_rest, token}
use Rattle.scanner.specs.Tokens.{Scanned, gives, no_procedures}
use Rattle.scanner.specs.declared.element.Element.{Element}
use Rattle.scanner.specs.declared.element.Element.TheVariants.{Object}

abbrev pub with_left : Kept → List ℕ → Kept
with_left k bs = record k { left = bs }

-- bytes of a comment, none of which ends it
pub data Remark : List ℕ → Type 0 where
  silent : Remark []
  word : (b : ℕ) (bs : List ℕ) → ends_comment b ≡ false → Remark bs → Remark (b ∷ bs)

-- white space and whole comments
pub data Blank : List ℕ → Type 0 where
  nothing : Blank []
  space : (b : ℕ) (bs : List ℕ) → white b ≡ true → Blank bs → Blank (b ∷ bs)
  comment : (remark : List ℕ) (b : ℕ) (bs : List ℕ) → Remark remark → ends_comment b ≡ true → Blank bs → Blank (37 ∷ (remark ++ b ∷ bs))

-- Blanks do not matter before a token, nor before a piece of a procedure.
pub record BlanksVanish : Type 0 where
  pub before : (blank : List ℕ) → Blank blank → (names : List (List ℕ)) (bs : List ℕ) → token names (blank ++ bs) ≡ token names bs
  pub inside : (blank : List ℕ) → Blank blank → (turns depth : ℕ) (mine : List Element) (k : Kept) (bs : List ℕ) → procedure_rest (suc turns) depth mine (with_left k (blank ++ bs)) ≡ procedure_rest (suc turns) depth mine (with_left k bs)

-- the names of a text, in reading order, with and without a slash
abbrev pub with_name : Result Piece Fault → List (List ℕ) → List (List ℕ)
with_name (Err f) rest = []
with_name (Ok ended) rest = []
with_name (Ok (name text)) rest = text ∷ rest
with_name (Ok (literal text)) rest = text ∷ rest
with_name (Ok x) rest = rest

unfoldable pub names_on : ℕ → List ℕ → List ℕ → List (List ℕ)
names_on zero out bs = []
names_on (suc turns) out bs = with_name (lexeme out bs).said (names_on turns (lexeme out bs).strings (lexeme out bs).left)

abbrev pub names_of : List ℕ → List (List ℕ)
names_of bs = names_on (suc (length bs)) [] bs

-- The names that a token leaves, whether it is whole or fails, are those before it, joined by the first so many names of the text.
abbrev pub NamesJoin : List ℕ → List (List ℕ) → List (List ℕ) → Type 0
NamesJoin bs before after = (k : ℕ) × (after ≡ names_after (take k (names_of bs)) before)

-- A token takes bytes from the front of the source, and nothing else.
abbrev pub Taken : List ℕ → List ℕ → Type 0
Taken before after = (n : ℕ) × (after ≡ drop n before)

abbrev pub but_left : Scanned → List ℕ → Scanned
but_left s bs = record s { left = bs }

-- A token hangs on the bytes that it takes, whole or not, and on the byte behind them only in that it ends a run:
-- whatever else comes there, the token is the same. So it does not matter which blanks stand between two tokens.
abbrev pub StandsAlone : Type 0
StandsAlone = (names : List (List ℕ)) (front : List ℕ) (b : ℕ) (more : List ℕ) (b' : ℕ) (more' : List ℕ) → ends_run b ≡ true → ends_run b' ≡ true → (token names (front ++ b ∷ more)).left ≡ b ∷ more → token names (front ++ b' ∷ more') ≡ but_left (token names (front ++ b ∷ more)) (b' ∷ more')

abbrev pub integer_token : ℤ → List (List ℕ) → List ℕ → Scanned
integer_token z names bs = gives (Object (record { value = Integer z; executable = false })) no_procedures names [] bs

-- The text of an integer is read as that integer, and exactly its bytes are taken: at the end of the source, and before any byte that ends a run.
pub record DecimalsReturn : Type 0 where
  pub alone : (z : ℤ) → FitsSigned w32 z → (names : List (List ℕ)) → token names (integer_text z) ≡ integer_token z names []
  pub before : (z : ℤ) → FitsSigned w32 z → (names : List (List ℕ)) (b : ℕ) (bs : List ℕ) → ends_run b ≡ true → token names (integer_text z ++ b ∷ bs) ≡ integer_token z names (b ∷ bs)
