-- The journal's notes: what they say, and what playing them back gives.
use Rattle.std.specs.Prelude.{ℕ, zero, suc, ◌+◌, ◌*◌, Bool, ◌&&◌, List, [], ◌∷◌, ◌++◌, length, ◌==◌, nat_lt, slice_index, slice_index_or, slice_set}
use Rattle.objects.specs.declared.object.Object.{Object}
use Rattle.keepers.specs.Kept.{blank}
use Rattle.keepers.specs.declared.note.Note.{Note}

abbrev pub note_at : List Note → ℕ → Note
note_at notes p = slice_index_or notes p (record { slot = 0; old = blank; at = 0 })

-- plays back the first c notes of the part that begins at b, the newest first
unfoldable pub undone : List Note → ℕ → ℕ → List Object → List Object
undone notes b zero slots = slots
undone notes b (suc c) slots = undone notes b c (slice_set slots (note_at notes (b + c)).slot (note_at notes (b + c)).old)

-- the d oldest levels, the oldest first: the newest is what its notes played back give, the ones before it what theirs give from there
unfoldable pub noted_levels : List Note → List ℕ → ℕ → List Object → List (List Object)
noted_levels notes counts zero slots = []
noted_levels notes counts (suc d) slots =
    let older = undone notes (d * length slots) (slice_index counts d) slots in
    noted_levels notes counts d older ++ older ∷ []

-- slot i of the part at b has a note among the part's first c: its claim names one, and that one names i
abbrev pub is_noted : List Note → ℕ → ℕ → ℕ → Bool
is_noted notes b c i = nat_lt (note_at notes (b + i)).at c && (note_at notes (b + (note_at notes (b + i)).at)).slot == i

-- what is written for a note: the record itself, and the claim in the entry of the slot that it names
abbrev pub with_note : List Note → ℕ → ℕ → Object → List Note
with_note notes p i o = slice_set notes p (record { slot = i; old = o; at = (note_at notes p).at })

abbrev pub with_claim : List Note → ℕ → ℕ → List Note
with_claim notes q c = slice_set notes q (record { slot = (note_at notes q).slot; old = (note_at notes q).old; at = c })
