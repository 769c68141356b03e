use Rattle.std.proofs.Common.{◌≡◌}
use lib.Seq.{paste}
use Rattle.names.proofs.join.copy_in.Given as goal

-- the bytes so far stand in their places, and all else is as it was
abbrev pub invariant-loop-i : goal.invariant-loop-i
invariant-loop-i l = l.places ≡ paste l.initial.places l.at l.text l.i
