use Rattle.std.proofs.Common.{length}
use Rattle.names.specs.Index.{names_in}
use Rattle.names.proofs.Chains.{Leads, up_to}
use Rattle.names.proofs.table.NameTable.find.Given as goal

-- no name above the link has the bytes
abbrev pub invariant-loop-link : goal.invariant-loop-link
invariant-loop-link l = Leads l.text (names_in l.self-inside.bytes l.self-inside.entries.items) (length l.self-inside.entries.items) l.link

abbrev pub decreases-loop-link : goal.decreases-loop-link
decreases-loop-link l = up_to l.link
