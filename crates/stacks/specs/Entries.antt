-- A stack of at most so many entries, as the list of them, top first.
use Rattle.std.specs.Prelude.{ℕ, ◌-◌, cond, List, ◌∷◌, length, drop, Ok, Err, Result, nat_lt, slice_set}
use Rattle.stacks.specs.declared.stack.Full.{Full}

-- refused exactly where there is no room for one more
abbrev pub room_for_one : {T : Type 0} → ℕ → List T → Result (Unit {0}) Full
room_for_one most xs = cond (nat_lt (length xs) most) (Ok tt) (Err (record {}))

-- one more on top, if there is room
abbrev pub entered : {T : Type 0} → ℕ → T → List T → List T
entered most x xs = cond (nat_lt (length xs) most) (x ∷ xs) xs

-- another on top; nothing changes where there is none
abbrev pub with_top : {T : Type 0} → T → List T → List T
with_top x xs = slice_set xs 0 x

-- the lowest so many
abbrev pub lowest : {T : Type 0} → ℕ → List T → List T
lowest depth xs = drop (length xs - depth) xs
