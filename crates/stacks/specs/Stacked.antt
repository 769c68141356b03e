-- The operand stack, top first, with the number of open stopped frames, and what each call makes of it.
use Rattle.std.specs.Prelude.{◌≡◌, ℕ, ◌+◌, ◌-◌, ◌<◌, Bool, true, false, cond, ◌&&◌, List, [], ◌∷◌, ◌++◌, length, reverse, take, drop, Ok, Err, Option, Result, nat_le, nat_lt, slice_set}
use Rattle.std.specs.List.{position}
use Rattle.std.specs.List.Sorted.{IsPermutation}
use Rattle.objects.specs.declared.fault.Fault.{Fault}
use Rattle.objects.specs.declared.fault.Fault.TheVariants.{StackOverflow, RangeCheck}
use Rattle.objects.specs.Objects.{truth}
use Rattle.objects.specs.declared.object.Object.{Object}
use Rattle.objects.specs.declared.object.Value.TheVariants.{Mark, Null, Integer, Boolean, Name, Operator, Array, String, Dictionary, Save, Header}

pub record Stacked : Type 0 where
  pub objects : List Object
  pub stopped : ℕ

abbrev pub with_objects : List Object → Stacked → Stacked
with_objects os s = record { objects = os; stopped = s.stopped }

abbrev pub empty : Stacked
empty = record { objects = []; stopped = 0 }

-- operands and open stopped frames together are at most 500
abbrev pub room_in : Stacked → ℕ
room_in s = 500 - (length s.objects + s.stopped)

abbrev pub pushed : Object → Stacked → Result Stacked Fault
pushed o s = cond (nat_lt (length s.objects + s.stopped) 500) (Ok (with_objects (o ∷ s.objects) s)) (Err StackOverflow)

abbrev pub pushed_two : Object → Object → Stacked → Result Stacked Fault
pushed_two below top s = cond (nat_le (length s.objects + s.stopped + 2) 500) (Ok (with_objects (top ∷ below ∷ s.objects) s)) (Err StackOverflow)

-- all of a list, whose first goes on lowest, or none
abbrev pub pushed_all : List Object → Stacked → Result Stacked Fault
pushed_all os s = cond (nat_le (length s.objects + s.stopped + length os) 500) (Ok (with_objects (reverse os ++ s.objects) s)) (Err StackOverflow)

abbrev pub discarded : ℕ → Stacked → Stacked
discarded n s = with_objects (drop n s.objects) s

-- one object for the top n; nothing changes where n is 0 or there are not as many
abbrev pub replaced : ℕ → Object → Stacked → Stacked
replaced n o s = cond (nat_lt 0 n && nat_le n (length s.objects)) (with_objects (o ∷ drop n s.objects) s) s

-- another object for the n-th; nothing changes where there is none
abbrev pub written : ℕ → Object → Stacked → Stacked
written n o s = with_objects (slice_set s.objects n o) s

-- the top n once more: rangecheck where there are not as many, stackoverflow where they have no room
abbrev pub copied_top : ℕ → Stacked → Result Stacked Fault
copied_top n s = cond (nat_le n (length s.objects)) (cond (nat_le n (room_in s)) (Ok (with_objects (take n s.objects ++ s.objects) s)) (Err StackOverflow)) (Err RangeCheck)

-- the first k of the top n go below the others of them
abbrev pub turned : {X : Type 0} → ℕ → ℕ → List X → List X
turned n k xs = drop k (take n xs) ++ (take k xs ++ drop n xs)

-- nothing changes unless k is below n and there are n
abbrev pub rolled : ℕ → ℕ → Stacked → Stacked
rolled n k s = cond (nat_lt k n && nat_le n (length s.objects)) (with_objects (turned n k s.objects) s) s

-- a roll moves objects within the group alone, and rolling the rest of the way brings all back
pub record Rolls (n k : ℕ) (old new : Stacked) : Type 0 where
  pub group : IsPermutation (take n old.objects) (take n new.objects)
  pub rest : drop n new.objects ≡ drop n old.objects
  pub back : 0 < k → rolled n (n - k) new ≡ old

abbrev pub cleared : Stacked → Stacked
cleared s = with_objects [] s

-- one more stopped frame, for the top operand; nothing changes where there is none
abbrev pub opened : Stacked → Stacked
opened s = cond (nat_lt 0 (length s.objects)) (record { objects = drop 1 s.objects; stopped = s.stopped + 1 }) s

-- one stopped frame less, for its boolean, which has room since operands and stopped frames are as many as before;
-- nothing changes where none is open
abbrev pub settled : Bool → Stacked → Stacked
settled b s = cond (nat_lt 0 s.stopped) (record { objects = truth b ∷ s.objects; stopped = s.stopped - 1 }) s

abbrev pub is_mark : Object → Bool
is_mark o = elim o.value [ Mark ↦ true | Null ↦ false | Integer i ↦ false | Boolean b ↦ false | Name n ↦ false | Operator p ↦ false | Array a ↦ false | String a ↦ false | Dictionary d ↦ false | Save n ↦ false | Header h ↦ false ]

-- how many lie above the topmost mark
abbrev pub count_to_mark : Stacked → Option ℕ
count_to_mark s = position is_mark s.objects
