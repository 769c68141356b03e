-- The pieces that a text is read in: names, integers, strings and braces. White space and comments stand between them.
use Rattle.std.specs.Prelude.{ℕ, ◌+◌, ◌-◌, Bool, true, false, cond, ◌&&◌, ◌||◌, List, [], ◌∷◌, ◌++◌, length, ℤ, Some, None, Ok, Err, Option, Result, ◌==◌, nat_lt}
use Rattle.objects.specs.declared.fault.Fault.{Fault}
use Rattle.objects.specs.declared.fault.Fault.TheVariants.{SyntaxError, LimitCheck}
use Rattle.scanner.specs.Bytes.{white, ends_comment}
use Rattle.objects.specs.Decimals.{integer_read}
use Rattle.scanner.specs.Runs.{run_of, past_run, within_limit}
use Rattle.objects.specs.declared.integer.IntegerError.{IntegerError}
use Rattle.objects.specs.declared.integer.IntegerError.TheVariants.{NotInteger, OutOfRange}

pub data Piece : Type 0 where
  ended : Piece
  opening : Piece
  closing : Piece
  integer : ℤ → Piece
  name : List ℕ → Piece
  literal : List ℕ → Piece
  string : Piece

-- What reading gives: the piece or the refusal, the bytes of all strings of the token so far, and the bytes that are left.
pub record Reading : Type 0 where
  pub said : Result Piece Fault
  pub strings : List ℕ
  pub left : List ℕ

abbrev pub says : Result Piece Fault → List ℕ → List ℕ → Reading
says r out bs = record { said = r; strings = out; left = bs }

-- white space and comments are passed over
unfoldable mutual
  pub skipped : List ℕ → List ℕ
  skipped [] = []
  skipped (b ∷ bs) = cond (white b) (skipped bs) (cond (b == 37) (past_comment bs) (b ∷ bs))

  -- a comment ends with a line end, with byte 12, or with the text
  pub past_comment : List ℕ → List ℕ
  past_comment [] = []
  past_comment (b ∷ bs) = cond (ends_comment b) (skipped bs) (past_comment bs)

-- a string's byte is kept unless the token has 1,024 of them; then the token fails at that byte
abbrev pub room : List ℕ → Reading → List ℕ → Reading
room out more bs = cond (nat_lt (length out) 1024) more (says (Err LimitCheck) out bs)

-- the byte that an escape stands for
abbrev pub escape : ℕ → ℕ
escape b = cond (b == 110) 10 (cond (b == 114) 13 (cond (b == 116) 9 b))

-- The body of a string, after its opening bracket: n brackets inside it are open, and after byte 13 a byte 10 belongs to the same line end.
unfoldable mutual
  pub body : List ℕ → List ℕ → ℕ → Bool → Reading
  body [] out n returned = says (Err SyntaxError) out []
  body (b ∷ bs) out n returned =
      cond (returned && b == 10) (body bs out n false)
      (cond (b == 41) (cond (n == 0) (says (Ok string) out bs) (room out (body bs (out ++ b ∷ []) (n - 1) false) bs))
      (cond (b == 40) (room out (body bs (out ++ b ∷ []) (n + 1) false) bs)
      (cond (b == 92) (escaped bs out n)
      (cond (b == 13) (room out (body bs (out ++ 10 ∷ []) n true) bs)
      (room out (body bs (out ++ b ∷ []) n false) bs)))))

  -- after a backslash: a line end vanishes, and every other byte stands for itself or for what it escapes
  pub escaped : List ℕ → List ℕ → ℕ → Reading
  escaped [] out n = says (Err SyntaxError) out []
  escaped (b ∷ bs) out n =
      cond (b == 10) (body bs out n false)
      (cond (b == 13) (body bs out n true)
      (room out (body bs (out ++ escape b ∷ []) n false) bs))

-- a run that is not after a slash is an integer or else a name
abbrev pub of_kind : List ℕ → Result ℤ IntegerError → Result Piece Fault
of_kind bs (Ok z) = Ok (integer z)
of_kind bs (Err NotInteger) = Ok (name bs)
of_kind bs (Err OutOfRange) = Err LimitCheck

abbrev pub plain : Option (List ℕ) → Result Piece Fault
plain None = Err LimitCheck
plain (Some bs) = of_kind bs (integer_read bs)

-- a run after a slash
abbrev pub slashed : Option (List ℕ) → Result Piece Fault
slashed None = Err LimitCheck
slashed (Some bs) = Ok (literal bs)

-- the piece that begins here
unfoldable pub begun : List ℕ → List ℕ → Reading
begun out [] = says (Ok ended) out []
begun out (b ∷ bs) =
    cond (b == 40) (body bs out 0 false)
    (cond (b == 47) (says (slashed (within_limit (run_of bs))) out (past_run bs))
    (cond (b == 91 || b == 93) (says (Ok (name (b ∷ []))) out bs)
    (cond (b == 123) (says (Ok opening) out bs)
    (cond (b == 125) (says (Ok closing) out bs)
    (cond (b == 41 || (b == 60 || b == 62)) (says (Err SyntaxError) out bs)
    (says (plain (within_limit (run_of (b ∷ bs)))) out (past_run (b ∷ bs))))))))

-- the next piece
abbrev pub lexeme : List ℕ → List ℕ → Reading
lexeme out bs = begun out (skipped bs)
