use Rattle.std.proofs.Common.{◌≡◌, ◌≤◌, length}
use Rattle.scanner.specs.Lexemes.{lexeme}
use Rattle.scanner.specs.Machine.{resumed, string_bytes, open_brackets, Counted}
use Rattle.scanner.specs.Sources.{to_come, whole}
use Rattle.scanner.proofs.lexer.Lexer.lexeme.Given as goal

-- the state reached gives, on the bytes left, what the first gives on all
abbrev pub invariant-loop-byte : goal.invariant-loop-byte
invariant-loop-byte l = (resumed l.self.cursor (string_bytes l.self l.used) (to_come l.source) ≡ lexeme (string_bytes l.initial.self l.initial.used) (to_come l.initial.source)) × (open_brackets l.self.cursor.state ≤ l.used) × (Counted l.initial.self l.initial.used → Counted l.self l.used) × (whole l.source ≡ whole l.initial.source)

abbrev pub decreases-loop-byte : goal.decreases-loop-byte
decreases-loop-byte l = length (to_come l.source)
