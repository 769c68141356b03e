use Rattle.std.proofs.Common.{◌≡◌}
use lib.Seq.{paste}
use Rattle.keepers.proofs.copy.CopyKeeper.copy_slots.Given as goal

abbrev pub invariant-loop-i : goal.invariant-loop-i
invariant-loop-i l =
    (l.self.slots.now ≡ l.initial.self.slots.now)
    × (l.self.bytes.now ≡ l.initial.self.bytes.now)
    × (l.self.opened ≡ l.initial.self.opened)
    × (l.self.copies.now ≡ paste l.initial.self.copies.now l.from l.initial.self.slots.now l.i)
