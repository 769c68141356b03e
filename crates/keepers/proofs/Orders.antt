-- The journal's ghost fields, as they are owed after a write.
use Rattle.std.proofs.Common.{◌≡◌, ℕ, suc, ◌+◌, ◌-◌, ◌*◌, ◌<◌, ◌≤◌, List, length, get_or, sym, ap, ◌∙◌, arith}
use Rattle.keepers.specs.Kept.{level_limit}
use Rattle.keepers.specs.declared.note.Note.{Note}
use Rattle.keepers.specs.Notes.{note_at}
use Rattle.keepers.specs.declared.journal.Journal.{Journal}
use Rattle.keepers.proofs.Noting.{Sound}

pub record Order (n limit opened : ℕ) (notes : List Note) (counts : List ℕ) : Type 0 where
  pub limited : limit ≡ level_limit n (length notes)
  pub within : opened ≤ limit
  pub counted : (k : ℕ) → k < opened → get_or counts k 0 ≤ n
  pub named : (k j : ℕ) → (k < opened) × (j < get_or counts k 0) → (note_at notes (k * n + j)).slot < n
  pub claimed : (k j : ℕ) → (k < opened) × (j < get_or counts k 0) → (note_at notes (k * n + (note_at notes (k * n + j)).slot)).at ≡ j

pub sound_journal : (j : Journal) → Sound j.notes.now j.counts (length j.slots.now) j.opened
sound_journal j = record { counted = j.counted; named = j.named; claimed = j.claimed }

pub ordered : (j : Journal) (notes : List Note) (counts : List ℕ) → length notes ≡ length j.notes.now → Sound notes counts (length j.slots.now) j.opened → Order (length j.slots.now) j.limit j.opened notes counts
ordered j notes counts e s =
    record {
      limited = j.limited ∙ ap (level_limit (length j.slots.now)) (sym e);
      within = j.within;
      counted = s.counted;
      named = s.named;
      claimed = s.claimed;
    }

-- the newest level, where one is open
pub newest_is : (opened : ℕ) → 0 < opened → suc (opened - 1) ≡ opened
newest_is opened h = omega arith
