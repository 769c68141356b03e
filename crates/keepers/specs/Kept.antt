-- What a keeper stands for, and what each of its calls does to that.
use Rattle.std.specs.Prelude.{ℕ, ◌/◌, min, false, cond, List, [], ◌∷◌, ◌++◌, length, take, Ok, Err, Result, ◌==◌, nat_lt, slice_index, slice_index_or, slice_set}
use Rattle.objects.specs.declared.fault.Fault.{Fault}
use Rattle.objects.specs.declared.fault.Fault.TheVariants.{RangeCheck, LimitCheck, InvalidRestore}
use Rattle.objects.specs.declared.object.Object.{Object}
use Rattle.objects.specs.declared.object.Value.TheVariants.{Null}

-- levels: the slots as they once were, the oldest level first
pub record Kept : Type 0 where
  pub slots : List Object
  pub bytes : List ℕ
  pub levels : List (List Object)
  pub limit : ℕ

abbrev pub blank : Object
blank = record { value = Null; executable = false }

-- a keeper that was just made over lent memory: no level is open
abbrev pub fresh : List Object → List ℕ → ℕ → Kept
fresh slots bytes limit = record { slots = slots; bytes = bytes; levels = []; limit = limit }

abbrev pub with_slots : List Object → Kept → Kept
with_slots s k = record { slots = s; bytes = k.bytes; levels = k.levels; limit = k.limit }

abbrev pub with_bytes : List ℕ → Kept → Kept
with_bytes b k = record { slots = k.slots; bytes = b; levels = k.levels; limit = k.limit }

abbrev pub with_levels : List (List Object) → Kept → Kept
with_levels l k = record { slots = k.slots; bytes = k.bytes; levels = l; limit = k.limit }

-- get: refused exactly for a number outside
abbrev pub get_slot : ℕ → Kept → Result Object Fault
get_slot i k = cond (nat_lt i (length k.slots)) (Ok (slice_index_or k.slots i blank)) (Err RangeCheck)

abbrev pub get_byte : ℕ → Kept → Result ℕ Fault
get_byte i k = cond (nat_lt i (length k.bytes)) (Ok (slice_index k.bytes i)) (Err RangeCheck)

-- put: one slot or byte and nothing else, refused exactly for a number outside
abbrev pub put_slot : ℕ → Object → Kept → Result Kept Fault
put_slot i o k = cond (nat_lt i (length k.slots)) (Ok (with_slots (slice_set k.slots i o) k)) (Err RangeCheck)

abbrev pub put_byte : ℕ → ℕ → Kept → Result Kept Fault
put_byte i b k = cond (nat_lt i (length k.bytes)) (Ok (with_bytes (slice_set k.bytes i b) k)) (Err RangeCheck)

-- open: the present slots become the newest level, refused exactly at the limit
abbrev pub open_level : Kept → Result Kept Fault
open_level k = cond (nat_lt (length k.levels) k.limit) (Ok (with_levels (k.levels ++ k.slots ∷ []) k)) (Err LimitCheck)

-- back: the slots of level n return, n and all above are closed, bytes stay; refused exactly when n is not open
abbrev pub back_to : ℕ → Kept → Result Kept Fault
back_to n k =
    cond (nat_lt n (length k.levels)) (Ok (with_slots (slice_index_or k.levels n []) (with_levels (take n k.levels) k)))
    (Err InvalidRestore)

-- how many whole times the slot count goes into a second memory, at most 15, and 0 without slots
abbrev pub level_limit : ℕ → ℕ → ℕ
level_limit slots second = cond (slots == 0) 0 (min 15 (second / slots))
