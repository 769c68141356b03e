-- What a journal keeper stands for.
use Rattle.std.specs.Prelude.{◌≡◌, ℕ, ◌+◌, ◌-◌, ◌*◌, ◌<◌, ◌≤◌, Bool, length, slice_index, slice_set}
use Rattle.objects.specs.declared.object.Object.{Object}
use Rattle.keepers.specs.Kept.{Kept}
use Rattle.keepers.specs.Notes.{note_at, is_noted, undone, noted_levels}
use Rattle.keepers.specs.declared.journal.Journal.{Journal}
use Rattle.keepers.specs.declared.note.Entry.{Entry}

abbrev pub journal_kept : Journal → Kept
journal_kept j = record {
  slots = j.slots.now;
  bytes = j.bytes.now;
  levels = noted_levels j.notes.now j.counts j.opened j.slots.now;
  limit = j.limit;
}

-- where the newest level's part begins, how many notes it has, and whether slot i has one
abbrev pub newest_part : Journal → ℕ
newest_part j = (j.opened - 1) * length j.slots.now

abbrev pub newest_count : Journal → ℕ
newest_count j = slice_index j.counts (j.opened - 1)

abbrev pub has_newest : Journal → ℕ → Bool
has_newest j i = is_noted j.notes.now (newest_part j) (newest_count j) i

-- the newest level's entry for slot i claims the note that would come next
abbrev pub claims_next : Journal → ℕ → Type 0
claims_next j i = (note_at j.notes.now (newest_part j + i)).at ≡ newest_count j

-- an entry of the newest level: that level's part lies whole in the second memory, and the slot in the slots
pub record OfNewest (j : Journal) (e : Entry) : Type 0 where
  pub some : 0 < j.opened
  pub few : j.opened ≤ 15
  pub level : e.level ≡ j.opened - 1
  pub base : e.base ≡ newest_part j
  pub room : newest_part j + length j.slots.now ≤ length j.notes.now
  pub inside : e.slot < length j.slots.now

-- slot i may now be written: whatever goes there, the levels stay those that they were
pub record Prepared (i : ℕ) (before after : Journal) : Type 0 where
  pub slots : after.slots.now ≡ before.slots.now
  pub bytes : after.bytes.now ≡ before.bytes.now
  pub limit : after.limit ≡ before.limit
  pub levels : (o : Object) → noted_levels after.notes.now after.counts after.opened (slice_set before.slots.now i o) ≡ noted_levels before.notes.now before.counts before.opened before.slots.now

-- the slots are those of a level, from those of the level above; nothing else changed
pub record PlayedBack (level : ℕ) (before after : Journal) : Type 0 where
  pub slots : after.slots.now ≡ undone before.notes.now (level * length before.slots.now) (slice_index before.counts level) before.slots.now
  pub bytes : after.bytes.now ≡ before.bytes.now
  pub notes : after.notes.now ≡ before.notes.now
  pub counts : after.counts ≡ before.counts
  pub opened : after.opened ≡ before.opened
  pub limit : after.limit ≡ before.limit
