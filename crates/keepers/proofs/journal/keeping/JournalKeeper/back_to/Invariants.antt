use Rattle.std.proofs.Common.{◌≡◌, ◌+◌, ◌≤◌, [], ◌∷◌, ◌++◌, take}
use Rattle.keepers.specs.Notes.{noted_levels}
use Rattle.keepers.proofs.journal.keeping.JournalKeeper.back_to.Given as goal

-- the levels not yet played back, and the present slots after them, are a front of the levels and slots at the start
abbrev pub invariant-loop-newest : goal.invariant-loop-newest
invariant-loop-newest l =
    (l.newest ≤ l.initial.self.opened)
    × (l.level ≤ l.newest)
    × (noted_levels l.initial.self.notes.now l.initial.self.counts l.newest l.self.slots.now ++ l.self.slots.now ∷ []
    ≡ take (l.newest + 1) (noted_levels l.initial.self.notes.now l.initial.self.counts l.initial.self.opened l.initial.self.slots.now ++ l.initial.self.slots.now ∷ []))
    × (l.self.bytes.now ≡ l.initial.self.bytes.now)
    × (l.self.notes.now ≡ l.initial.self.notes.now)
    × (l.self.counts ≡ l.initial.self.counts)
    × (l.self.opened ≡ l.initial.self.opened)
    × (l.self.limit ≡ l.initial.self.limit)
