-- How the names lie in memory: the list that they make.
use Rattle.std.proofs.Common.{◌≡◌, ℕ, ◌+◌, ◌*◌, ◌%◌, ◌<◌, ◌≤◌, List, [], length, get_or, drop}
use Rattle.std.specs.List.{slice_get}
use Rattle.std.specs.Option.{option_map}
use Rattle.std.proofs.lemmas.List.{length-map, get_or-map, at_drop_more, at_drop_all}
use Rattle.std.proofs.lemmas.Option.{slice_get-map}
use Rattle.names.specs.declared.entry.Entry.{Entry}
use Rattle.names.specs.Index.{blank, entry_at, name_in, names_in, bucket_after}

module _ (bytes : List ℕ) (entries : List Entry) where
  pub length_names : length (names_in bytes entries) ≡ length entries
  unfolding names_in
  length_names = length-map entries (name_in bytes)

  pub name_at : (i : ℕ) → i < length entries → get_or (names_in bytes entries) i [] ≡ name_in bytes (entry_at entries i)
  unfolding names_in
  name_at i h = get_or-map (name_in bytes) entries i blank [] h

  pub nth_name : (i : ℕ) → slice_get (names_in bytes entries) i ≡ option_map (name_in bytes) (slice_get entries i)
  unfolding names_in
  nth_name i = slice_get-map (name_in bytes) entries i

pub bucket_more : (b i : ℕ) (text : List ℕ) → i < length text → bucket_after b (drop i text) ≡ bucket_after ((b * 31 + get_or text i 0) % 1024) (drop (i + 1) text)
unfolding bucket_after
bucket_more b i text h = at_drop_more (bucket_after b) text i 0 h

pub bucket_all : (b i : ℕ) (text : List ℕ) → length text ≤ i → bucket_after b (drop i text) ≡ b
unfolding bucket_after
bucket_all b i text h = at_drop_all (bucket_after b) text i h
