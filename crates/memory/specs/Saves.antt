-- Saves by their numbers: what making one and going back to one mean.
use Rattle.std.specs.Prelude.{◌≡◌, ℕ, ◌+◌, ◌<◌, ◌≤◌, ◌⊎◌, List, [], ◌∷◌, ◌++◌, length, take, Ok, Err, Result, ◌≢◌, slice_index_or}
use Rattle.objects.specs.Outcomes.{after, heard}
use Rattle.objects.specs.declared.fault.Fault.{Fault}
use Rattle.objects.specs.declared.fault.Fault.TheVariants.{LimitCheck, InvalidRestore}
use Rattle.objects.specs.declared.object.Object.{Object}
use Rattle.memory.specs.Memories.{InUse}
use Rattle.memory.specs.Saving.{no_save, back_to_save}
use Rattle.memory.specs.declared.saves.Saved.{Saved}

-- save i, counted from the oldest, is the first open one with number n
pub record OpenAt (n : ℕ) (ss : List Saved) (i : ℕ) : Type 0 where
  pub inside : i < length ss
  pub numbered : (slice_index_or ss i no_save).number ≡ n
  pub first : (j : ℕ) → j < i → (slice_index_or ss j no_save).number ≢ n

-- no open save has number n
abbrev pub NoneOpen : ℕ → List Saved → Type 0
NoneOpen n ss = (j : ℕ) → j < length ss → (slice_index_or ss j no_save).number ≢ n

-- going back to save n from a later memory is accepted and gives what an old one had: slots, levels, tops and saves; the bytes stay as met
pub record ComesBack (old later : InUse) (n : ℕ) : Type 0 where
  pub accepted : heard (back_to_save n later) ≡ Ok tt
  pub slots : (after (back_to_save n later) later).kept.slots ≡ old.kept.slots
  pub levels : (after (back_to_save n later) later).kept.levels ≡ old.kept.levels
  pub bytes : (after (back_to_save n later) later).kept.bytes ≡ later.kept.bytes
  pub slot_top : (after (back_to_save n later) later).slot_top ≡ old.slot_top
  pub byte_top : (after (back_to_save n later) later).byte_top ≡ old.byte_top
  pub saves : (after (back_to_save n later) later).saves ≡ old.saves

-- a later memory whose open saves and levels still begin with those that a memory had
pub record Grown (new later : InUse) : Type 0 where
  pub more : List Saved
  pub saves : later.saves ≡ new.saves ++ more
  pub inner : List (List Object)
  pub levels : later.kept.levels ≡ new.kept.levels ++ inner

-- a save made: one above the saves made so far, the newest, with both tops as they stand; nothing in memory changes
pub record SaveMade (old new : InUse) (n : ℕ) : Type 0 where
  pub number : n ≡ old.made + 1
  pub made : new.made ≡ n
  pub newest : new.saves ≡ old.saves ++ (record { number = n; slot_top = old.slot_top; byte_top = old.byte_top }) ∷ []
  pub level : new.kept.levels ≡ old.kept.levels ++ old.kept.slots ∷ []
  pub slots : new.kept.slots ≡ old.kept.slots
  pub bytes : new.kept.bytes ≡ old.kept.bytes
  pub slot_top : new.slot_top ≡ old.slot_top
  pub byte_top : new.byte_top ≡ old.byte_top
  -- it was made below all three limits
  pub numbers_left : old.made < 65535
  pub saves_left : length old.saves < 15
  pub levels_left : length old.kept.levels < old.kept.limit
  -- as long as it is open, the way back to it leads here; for an old memory with as many levels as saves, none of which has the number
  pub comes_back : length old.kept.levels ≡ length old.saves → NoneOpen n old.saves → (later : InUse) → Grown new later → ComesBack old later n

-- a save refused: limitcheck at a limit, and nothing changed
pub record SaveRefused (old new : InUse) (f : Fault) : Type 0 where
  pub fault : f ≡ LimitCheck
  pub same : new ≡ old
  pub reached : (65535 ≤ old.made) ⊎ ((15 ≤ length old.saves) ⊎ (old.kept.limit ≤ length old.kept.levels))

abbrev pub Saving : InUse → InUse → Result ℕ Fault → Type 0
Saving old new (Ok n) = SaveMade old new n
Saving old new (Err f) = SaveRefused old new f

-- gone back to save n: exactly the saves before it are left, both tops as it recorded them, the slots of its level; bytes and the count of saves made stay
pub record WentBack (old new : InUse) (n : ℕ) : Type 0 where
  pub place : ℕ
  pub named : OpenAt n old.saves place
  pub open_level : place < length old.kept.levels
  pub saves : new.saves ≡ take place old.saves
  pub slot_top : new.slot_top ≡ (slice_index_or old.saves place no_save).slot_top
  pub byte_top : new.byte_top ≡ (slice_index_or old.saves place no_save).byte_top
  pub slots : new.kept.slots ≡ slice_index_or old.kept.levels place []
  pub levels : new.kept.levels ≡ take place old.kept.levels
  pub bytes : new.kept.bytes ≡ old.kept.bytes
  pub made : new.made ≡ old.made

-- a way back refused: no open save has the number, or the keeper has no such level; nothing changed
pub record BackRefused (old new : InUse) (n : ℕ) (f : Fault) : Type 0 where
  pub fault : f ≡ InvalidRestore
  pub same : new ≡ old
  pub closed : NoneOpen n old.saves ⊎ ((i : ℕ) × (OpenAt n old.saves i × (length old.kept.levels ≤ i)))

abbrev pub GoingBack : InUse → InUse → ℕ → Result (Unit {0}) Fault → Type 0
GoingBack old new n (Ok u) = WentBack old new n
GoingBack old new n (Err f) = BackRefused old new n f
