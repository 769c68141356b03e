-- What a copy keeper stands for.
use Rattle.std.specs.Prelude.{ℕ, zero, suc, ◌*◌, min, List, [], ◌∷◌, ◌++◌, length, take, drop}
use Rattle.keepers.specs.Kept.{Kept, level_limit}
use Rattle.keepers.specs.declared.copy.CopyKeeper.{CopyKeeper}
use Rattle.objects.specs.declared.object.Object.{Object}

-- the copies in a second memory, oldest first: level k's begins at place k times the slot count
unfoldable pub copy_levels : ℕ → ℕ → List Object → List (List Object)
copy_levels zero count copies = []
copy_levels (suc k) count copies = copy_levels k count copies ++ take count (drop (k * count) copies) ∷ []

abbrev pub copies_limit : CopyKeeper → ℕ
copies_limit k = level_limit (length k.slots.now) (length k.copies.now)

abbrev pub copies_kept : CopyKeeper → Kept
copies_kept k = record {
  slots = k.slots.now;
  bytes = k.bytes.now;
  levels = copy_levels (min k.opened (copies_limit k)) (length k.slots.now) k.copies.now;
  limit = copies_limit k;
}
