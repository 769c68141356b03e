use Rattle.std.proofs.Common.{◌≡◌, length, take, drop}
use Rattle.keepers.proofs.copy.CopyKeeper.write_back.Given as goal

abbrev pub invariant-loop-i : goal.invariant-loop-i
invariant-loop-i l =
    (length l.self.slots.now ≡ length l.initial.self.slots.now)
    × (l.self.bytes.now ≡ l.initial.self.bytes.now)
    × (l.self.opened ≡ l.initial.self.opened)
    × (l.self.copies.now ≡ l.initial.self.copies.now)
    × (take l.i l.self.slots.now ≡ take l.i (drop l.from l.initial.self.copies.now))
