-- A source stands for the bytes still to come.
use Rattle.std.specs.Prelude.{ℕ, ◌+◌, min, List, [], ◌∷◌, length, drop, Some, None, Option}
use Rattle.scanner.specs.declared.source.Source.{Source}

abbrev pub to_come : Source → List ℕ
to_come s = drop s.place s.text.now

-- how many bytes were taken from it
abbrev pub taken : Source → ℕ
taken s = s.place

-- the bytes taken and to come, together: a byte that is taken is no more to come
abbrev pub whole : Source → ℕ
whole s = taken s + length (to_come s)

abbrev pub first : List ℕ → Option ℕ
first [] = None
first (b ∷ bs) = Some b

-- the count of bytes taken stops at the last number that it can hold
abbrev pub at_most_last_place : ℕ → ℕ
at_most_last_place n = min n 4294967295
