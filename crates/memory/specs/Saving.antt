-- Saves: numbered from 1, each opening a level and recording both tops.
use Rattle.std.specs.Prelude.{ℕ, ◌+◌, Bool, cond, ◌&&◌, List, [], ◌∷◌, ◌++◌, length, take, Some, None, Ok, Err, Option, Result, ◌==◌, nat_lt, slice_index_or}
use Rattle.std.specs.List.{position}
use Rattle.objects.specs.declared.fault.Fault.{Fault}
use Rattle.objects.specs.declared.fault.Fault.TheVariants.{LimitCheck, InvalidRestore}
use Rattle.keepers.specs.Kept.{Kept, open_level, back_to}
use Rattle.memory.specs.Memories.{InUse}
use Rattle.memory.specs.declared.saves.Saved.{Saved}

abbrev pub next_number : InUse → ℕ
next_number m = m.made + 1

-- the save recorded, over the level that the keeper opened
abbrev pub recorded : InUse → Kept → InUse
recorded m k = record {
  kept = k;
  slot_top = m.slot_top;
  byte_top = m.byte_top;
  saves = m.saves ++ (record { number = next_number m; slot_top = m.slot_top; byte_top = m.byte_top }) ∷ [];
  made = next_number m;
}

abbrev pub if_opened : InUse → Result Kept Fault → Result InUse Fault
if_opened m (Ok k) = Ok (recorded m k)
if_opened m (Err f) = Err f

-- limitcheck at the level limit, which no table has above 15, or after 65,535 saves
abbrev pub save_made : InUse → Result InUse Fault
save_made m = cond (nat_lt m.made 65535 && nat_lt (length m.saves) 15) (if_opened m (open_level m.kept)) (Err LimitCheck)

-- a save could be made
abbrev pub can_save : InUse → Bool
can_save m = nat_lt m.made 65535 && (nat_lt (length m.saves) 15 && nat_lt (length m.kept.levels) m.kept.limit)

-- which of the open saves, counted from the oldest, is the first that has the number
abbrev pub save_place : ℕ → List Saved → Option ℕ
save_place number ss = position (λ s. s.number == number) ss

abbrev pub no_save : Saved
no_save = record { number = 0; slot_top = 0; byte_top = 0 }

abbrev pub saved_at : List Saved → Option ℕ → Option Saved
saved_at ss None = None
saved_at ss (Some i) = Some (slice_index_or ss i no_save)

-- what the open save with the number recorded
abbrev pub saved_as : ℕ → List Saved → Option Saved
saved_as number ss = saved_at ss (save_place number ss)

-- both tops return, and the save and all after it are open no more; how many were made stays
abbrev pub returned : InUse → ℕ → Kept → InUse
returned m i k = record {
  kept = k;
  slot_top = (slice_index_or m.saves i no_save).slot_top;
  byte_top = (slice_index_or m.saves i no_save).byte_top;
  saves = take i m.saves;
  made = m.made;
}

abbrev pub if_back : InUse → ℕ → Result Kept Fault → Result InUse Fault
if_back m i (Ok k) = Ok (returned m i k)
if_back m i (Err f) = Err f

abbrev pub if_open : InUse → Option ℕ → Result InUse Fault
if_open m None = Err InvalidRestore
if_open m (Some i) = if_back m i (back_to i m.kept)

-- back to the save with the number, if it is open
abbrev pub back_to_save : ℕ → InUse → Result InUse Fault
back_to_save number m = if_open m (save_place number m.saves)
