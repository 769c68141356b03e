-- What the buffers stand for while a token is read.
use Rattle.std.specs.Prelude.{ℕ, List, take, Some, None, Ok, Err, Option, Result}
use Rattle.objects.specs.declared.fault.Fault.{Fault}
use Rattle.scanner.specs.Machine.{string_bytes}
use Rattle.scanner.specs.Stocks.{Procedures, Progress, procedures, heard}
use Rattle.scanner.specs.Tokens.{Scanned, none, refuses, by_outcome}
use Rattle.scanner.specs.declared.buffers.Buffers.{Buffers}
use Rattle.scanner.specs.declared.counts.Counts.{Counts}
use Rattle.scanner.specs.declared.token.Token.{Token}

abbrev pub in_progress : Buffers → Counts → Procedures
in_progress b c = procedures b.stock c.tally

abbrev pub strings_read : Buffers → Counts → List ℕ
strings_read b c = string_bytes b.lexer c.strings

-- what one piece leads to, and then more
abbrev pub went_on : Buffers → Counts → Result Progress Fault → List (List ℕ) → List ℕ → (List (List ℕ) → Procedures → List ℕ → List ℕ → Scanned) → Scanned
went_on b c r names bs more = by_outcome (heard b.stock c.tally r) names (strings_read b c) bs (λ p. more names p (strings_read b c) bs)

-- what is answered and left behind
abbrev pub scanned : Buffers → Result (Option Token) Fault → List (List ℕ) → List ℕ → Scanned
scanned b (Ok (Some t)) names bs = record { answer = Ok (Some t); slots = take t.slots b.stock.done; bytes = take t.bytes b.lexer.strings; names = names; left = bs }
scanned b (Ok None) names bs = none names bs
scanned b (Err f) names bs = refuses f names bs
