-- How the names lie in memory, and the index over them.
use Rattle.std.specs.Prelude.{◌≡◌, ℕ, zero, suc, ◌+◌, ◌*◌, ◌%◌, ◌<◌, ◌≤◌, cond, List, [], ◌∷◌, length, map, take, drop, Some, None, Option, ◌==◌, slice_index_or}
use Rattle.objects.specs.Operators.{operator_named}
use Rattle.names.specs.Names.{bytes_in, Apart}
use Rattle.names.specs.declared.entry.Entry.{Entry}

abbrev pub blank : Entry
blank = record { place = record { start = 0; len = 0 }; operator = None; next = None }

abbrev pub entry_at : List Entry → ℕ → Entry
entry_at entries i = slice_index_or entries i blank

abbrev pub name_in : List ℕ → Entry → List ℕ
name_in bytes entry = take entry.place.len (drop entry.place.start bytes)

unfoldable pub names_in : List ℕ → List Entry → List (List ℕ)
names_in bytes entries = map (name_in bytes) entries

-- the bucket of a name, of 1,024
unfoldable pub bucket_after : ℕ → List ℕ → ℕ
bucket_after so_far [] = so_far
bucket_after so_far (c ∷ cs) = bucket_after ((so_far * 31 + c) % 1024) cs

abbrev pub bucket_of : List ℕ → ℕ
bucket_of text = bucket_after 0 text

-- the newest name of a bucket among the first n
unfoldable pub latest : ℕ → List (List ℕ) → ℕ → Option ℕ
latest bucket names zero = None
latest bucket names (suc n) = cond (bucket_of (slice_index_or names n []) == bucket) (Some n) (latest bucket names n)

-- what holds of every table
pub record Sound (bytes : List ℕ) (used : ℕ) (entries : List Entry) (heads : List (Option ℕ)) : Type 0 where
  pub room : used ≤ 8192
  -- each name lies within the bytes used, and together the names fill them
  pub inside : (i : ℕ) → i < length entries → (entry_at entries i).place.start + (entry_at entries i).place.len ≤ used
  pub filled : bytes_in (names_in bytes entries) ≡ used
  -- each entry remembers the operator that its name names
  pub told : (i : ℕ) → i < length entries → (entry_at entries i).operator ≡ operator_named (name_in bytes (entry_at entries i))
  -- no two names are the same
  pub apart : Apart (names_in bytes entries)
  -- a bucket leads to its newest name, and each name to the newest of its bucket before it
  pub newest : (b : ℕ) → b < 1024 → slice_index_or heads b None ≡ latest b (names_in bytes entries) (length entries)
  pub linked : (i : ℕ) → i < length entries → (entry_at entries i).next ≡ latest (bucket_of (name_in bytes (entry_at entries i))) (names_in bytes entries) i
