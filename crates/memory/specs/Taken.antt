-- Memory taken lies above the old top, and nothing else is touched.
use Rattle.std.specs.Prelude.{◌≡◌, ℕ, ◌<◌, ◌≤◌, slice_index_or}
use Rattle.memory.specs.Memories.{InUse, Part}

-- from a memory to a later one, of one part: the top does not fall, the cells below the old top and from the new top on read as before,
-- those between are empty, and with the old cells in place all that is kept is as before
pub record Taken {A : Type 0} (p : Part A) (old new : InUse) : Type 0 where
  pub rises : p.top old ≤ p.top new
  pub older : (i : ℕ) → i < p.top old → slice_index_or (p.cells new.kept) i p.empty ≡ slice_index_or (p.cells old.kept) i p.empty
  pub taken : (i : ℕ) → p.top old ≤ i → i < p.top new → slice_index_or (p.cells new.kept) i p.empty ≡ p.empty
  pub free : (i : ℕ) → p.top new ≤ i → slice_index_or (p.cells new.kept) i p.empty ≡ slice_index_or (p.cells old.kept) i p.empty
  pub rest : p.with_cells (p.cells old.kept) new.kept ≡ old.kept
