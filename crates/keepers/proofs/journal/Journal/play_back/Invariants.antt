use Rattle.std.proofs.Common.{◌≡◌, ◌≤◌, get_or}
use Rattle.keepers.specs.Notes.{undone}
use Rattle.keepers.proofs.journal.Journal.play_back.Given as goal

-- the notes that are left give from here what all of them give from the start
abbrev pub invariant-loop-j : goal.invariant-loop-j
invariant-loop-j l =
    (l.j ≤ get_or l.initial.self.counts l.level 0)
    × (undone l.initial.self.notes.now l.base l.j l.self.slots.now ≡ undone l.initial.self.notes.now l.base (get_or l.initial.self.counts l.level 0) l.initial.self.slots.now)
    × (l.self.bytes.now ≡ l.initial.self.bytes.now)
    × (l.self.notes.now ≡ l.initial.self.notes.now)
    × (l.self.counts ≡ l.initial.self.counts)
    × (l.self.opened ≡ l.initial.self.opened)
    × (l.self.limit ≡ l.initial.self.limit)
