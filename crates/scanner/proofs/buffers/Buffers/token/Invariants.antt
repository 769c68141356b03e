use Rattle.std.proofs.Common.{◌≡◌, length}
use Rattle.scanner.specs.Machine.{Counted}
use Rattle.scanner.specs.Reads.{in_progress, strings_read}
use Rattle.scanner.specs.Sources.{to_come, whole}
use Rattle.scanner.specs.Tokens.{by_pieces, reading_on}
use Rattle.scanner.proofs.buffers.Buffers.token.Given as goal

-- what was read so far gives, with the bytes left, what all of them give
abbrev pub invariant-loop-element : goal.invariant-loop-element
invariant-loop-element l = (reading_on l.names (in_progress l.self l.counts) (strings_read l.self l.counts) (to_come l.source) ≡ by_pieces l.initial.names (to_come l.initial.source)) × Counted l.self.lexer l.counts.strings × (whole l.source ≡ whole l.initial.source)

abbrev pub decreases-loop-element : goal.decreases-loop-element
decreases-loop-element l = length (to_come l.source)
