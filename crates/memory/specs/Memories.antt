-- Memory in use over a keeper: what lies below the tops, and how more is taken.
use Rattle.std.specs.Prelude.{◌≡◌, ℕ, ◌+◌, min, Bool, cond, ◌&&◌, List, [], ◌++◌, length, take, drop, replicate, Ok, Err, Result, nat_le, nat_lt, slice_set}
use Rattle.objects.specs.declared.fault.Fault.{Fault}
use Rattle.objects.specs.declared.fault.Fault.TheVariants.{VmError}
use Rattle.objects.specs.declared.object.Object.{Object}
use Rattle.memory.specs.declared.run.Run.{Run}
use Rattle.memory.specs.declared.run.Run.TheVariants.{Slots, Bytes}
use Rattle.memory.specs.declared.saves.Saved.{Saved}
use Rattle.keepers.specs.Kept.{Kept, blank, with_slots, with_bytes}

-- slot_top, byte_top: how many slots and bytes are in use; saves: the open ones, oldest first; made: how many saves there ever were
pub record InUse : Type 0 where
  pub kept : Kept
  pub slot_top : ℕ
  pub byte_top : ℕ
  pub saves : List Saved
  pub made : ℕ

-- nothing in use yet
abbrev pub unused : Kept → InUse
unused k = record { kept = k; slot_top = 0; byte_top = 0; saves = []; made = 0 }

abbrev pub with_kept : Kept → InUse → InUse
with_kept k m = record { kept = k; slot_top = m.slot_top; byte_top = m.byte_top; saves = m.saves; made = m.made }

abbrev pub with_slot_top : ℕ → InUse → InUse
with_slot_top t m = record { kept = m.kept; slot_top = t; byte_top = m.byte_top; saves = m.saves; made = m.made }

abbrev pub with_byte_top : ℕ → InUse → InUse
with_byte_top t m = record { kept = m.kept; slot_top = m.slot_top; byte_top = t; saves = m.saves; made = m.made }

-- another top for a run
abbrev pub run_topped : Run → ℕ → InUse → InUse
run_topped Slots t m = with_slot_top t m
run_topped Bytes t m = with_byte_top t m

-- places are numbered with 16 bits
abbrev pub room_of : ℕ → ℕ
room_of count = min count 65535

-- n places from a top on, all with the same contents
abbrev pub filled : {A : Type 0} → ℕ → ℕ → A → List A → List A
filled top n x xs = take top xs ++ (replicate n x ++ drop (top + n) xs)

-- one of the two parts of memory: its cells, its top, and what a cell holds that is taken and not yet written
pub record Part (A : Type 0) : Type 0 where
  pub cells : Kept → List A
  pub with_cells : List A → Kept → Kept
  pub top : InUse → ℕ
  pub with_top : ℕ → InUse → InUse
  pub empty : A

abbrev pub slots : Part Object
slots = record { cells = λ k. k.slots; with_cells = with_slots; top = λ m. m.slot_top; with_top = with_slot_top; empty = blank }

abbrev pub bytes : Part ℕ
bytes = record { cells = λ k. k.bytes; with_cells = with_bytes; top = λ m. m.byte_top; with_top = with_byte_top; empty = 0 }

module _ {A : Type 0} (p : Part A) where
  abbrev pub room : InUse → ℕ
  room m = room_of (length (p.cells m.kept))

  -- one cell set; nothing past the end
  abbrev pub with_cell : ℕ → A → InUse → InUse
  with_cell i x m = with_kept (p.with_cells (slice_set (p.cells m.kept) i x) m.kept) m

  abbrev pub emptied : ℕ → ℕ → InUse → InUse
  emptied from n m = with_kept (p.with_cells (filled from n p.empty (p.cells m.kept)) m.kept) m

  -- the top after n cells more: refused exactly when it would pass the end
  abbrev pub end_of : ℕ → InUse → Result ℕ Fault
  end_of n m = cond (nat_le (p.top m + n) (room m)) (Ok (p.top m + n)) (Err VmError)

  -- the next n cells, all empty
  abbrev pub taken : ℕ → InUse → Result InUse Fault
  taken n m = cond (nat_le (p.top m + n) (room m)) (Ok (p.with_top (p.top m + n) (emptied (p.top m) n m))) (Err VmError)

  -- one cell more, which holds x
  abbrev pub appended : A → InUse → Result InUse Fault
  appended x m = cond (nat_lt (p.top m) (room m)) (Ok (p.with_top (p.top m + 1) (with_cell (p.top m) x m))) (Err VmError)

abbrev pub with_slot : ℕ → Object → InUse → InUse
with_slot = with_cell slots

abbrev pub with_byte : ℕ → ℕ → InUse → InUse
with_byte = with_cell bytes

-- the next n slots, all null
abbrev pub take_slots : ℕ → InUse → Result InUse Fault
take_slots = taken slots

-- the next n bytes, all zero
abbrev pub take_bytes : ℕ → InUse → Result InUse Fault
take_bytes = taken bytes

-- so many slots and bytes could be taken
abbrev pub has_room : ℕ → ℕ → InUse → Bool
has_room more_slots more_bytes m = nat_le (m.slot_top + more_slots) (room slots m) && nat_le (m.byte_top + more_bytes) (room bytes m)

-- what holds of both parts: cells set are the cells read, and setting them touches neither what else is kept nor a top
pub record Lawful {A : Type 0} (p : Part A) : Type 0 where
  pub read : (xs : List A) (k : Kept) → p.cells (p.with_cells xs k) ≡ xs
  pub again : (xs ys : List A) (k : Kept) → p.with_cells xs (p.with_cells ys k) ≡ p.with_cells xs k
  pub same : (k : Kept) → p.with_cells (p.cells k) k ≡ k
  pub top_kept : (k : Kept) (m : InUse) → p.top (with_kept k m) ≡ p.top m
  pub topped : (t : ℕ) (m : InUse) → p.top (p.with_top t m) ≡ t
  pub kept_topped : (t : ℕ) (m : InUse) → (p.with_top t m).kept ≡ m.kept
