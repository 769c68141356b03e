-- What a state of the scanner means: what reading gives from there on.
use Rattle.std.specs.Prelude.{◌≡◌, ℕ, List, ◌∷◌, length, take, Ok, Err, Option, Result}
use Rattle.objects.specs.declared.fault.Fault.{Fault}
use Rattle.scanner.specs.Gathered.{kept, so_far}
use Rattle.scanner.specs.Lexemes.{Piece, ended, opening, closing, integer, name, literal, string, Reading, says, begun, skipped, past_comment, body, escaped, plain, slashed}
use Rattle.scanner.specs.Runs.{run_of, past_run, gathered}
use Rattle.scanner.specs.declared.cursor.Cursor.{Cursor}
use Rattle.scanner.specs.declared.lexer.Lexer.{Lexer}
use Rattle.scanner.specs.declared.run.Run.{Run}
use Rattle.scanner.specs.declared.state.State.{State}
use Rattle.scanner.specs.declared.state.State.TheVariants.{Between, Comment, Plain, Slashed, Text, Escaped}
use Rattle.scanner.specs.declared.state.Lexeme.{Lexeme}
use Rattle.scanner.specs.declared.state.Lexeme.TheVariants.{Ended, Opening, Closing, Integer, Name, Literal, String}
use Rattle.scanner.specs.declared.state.Step.{Step}
use Rattle.scanner.specs.declared.state.Step.TheVariants.{On, Take, Leave}

-- the string bytes of the token so far
abbrev pub string_bytes : Lexer → ℕ → List ℕ
string_bytes l used = take used l.strings

abbrev pub open_brackets : State → ℕ
open_brackets (Text n returned) = n
open_brackets (Escaped n) = n
open_brackets s = 0

-- what is read from a state on, with the run and the string bytes so far
abbrev pub reading : State → Option (List ℕ) → List ℕ → List ℕ → Reading
reading Between o out bs = begun out (skipped bs)
reading Comment o out bs = begun out (past_comment bs)
reading Plain o out bs = says (plain (gathered o (run_of bs))) out (past_run bs)
reading Slashed o out bs = says (slashed (gathered o (run_of bs))) out (past_run bs)
reading (Text n returned) o out bs = body bs out n returned
reading (Escaped n) o out bs = escaped bs out n

abbrev pub resumed : Cursor → List ℕ → List ℕ → Reading
resumed c out bs = reading c.state (so_far c.run) out bs

abbrev pub piece : Run → Lexeme → Piece
piece run Ended = ended
piece run Opening = opening
piece run Closing = closing
piece run (Integer z) = integer z
piece run Name = name (kept run)
piece run Literal = literal (kept run)
piece run String = string

abbrev pub heard : Run → Result Lexeme Fault → Result Piece Fault
heard run (Ok l) = Ok (piece run l)
heard run (Err f) = Err f

-- what a step leads to, where the bytes after the one that it was given are bs
abbrev pub went : Cursor → List ℕ → Step → ℕ → List ℕ → Reading
went c out On b bs = resumed c out bs
went c out (Take r) b bs = says (heard c.run r) out bs
went c out (Leave r) b bs = says (heard c.run r) out (b ∷ bs)

-- the count tells how many string bytes there are
abbrev pub Counted : Lexer → ℕ → Type 0
Counted l used = length (string_bytes l used) ≡ used
