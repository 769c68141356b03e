-- A new name behind the others: the list of names, and the index over it.
use Rattle.std.proofs.Common.{◌≡◌, ℕ, ◌+◌, ◌<◌, ◌≤◌, List, [], ◌∷◌, ◌++◌, map, length, take, drop, sym, refl, ap, ◌∙◌, arith}
use lib.Seq.{paste}
use Rattle.std.specs.List.{AllByRecursion}
use Rattle.std.proofs.lemmas.List.Edits.{paste_all}
use Rattle.std.proofs.ByRecursion.{All-from_get_or}
use Rattle.std.proofs.lemmas.List.{length-take-le, take-append-le, take-take, take_at, drop_at, drop-take, map_push}
use Rattle.names.specs.declared.entry.Entry.{Entry}
use Rattle.names.specs.Index.{blank, entry_at, name_in, names_in}

-- what is written from a place on leaves the parts below it
part_kept : (bytes : List ℕ) (at : ℕ) (text : List ℕ) (start len : ℕ) → start + len ≤ at → at ≤ length bytes → take len (drop start (paste bytes at text (length text))) ≡ take len (drop start bytes)
part_kept bytes at text start len below inside =
    let long = length-take-le at bytes inside in
    let whole = paste_all bytes at text (length text) refl in
    let front : take (start + len) (paste bytes at text (length text)) ≡ take (start + len) bytes = ap (take (start + len)) whole ∙ take-append-le (start + len) (take at bytes) (text ++ drop (at + length text) bytes) (omega arith) ∙ take-take (start + len) at bytes below in
    sym (drop-take start len (paste bytes at text (length text))) ∙ ap (drop start) front ∙ drop-take start len bytes

part_new : (bytes : List ℕ) (at : ℕ) (text : List ℕ) → at ≤ length bytes → take (length text) (drop at (paste bytes at text (length text))) ≡ text
part_new bytes at text inside =
    ap (λ xs. take (length text) (drop at xs)) (paste_all bytes at text (length text) refl)
    ∙ ap (take (length text)) (drop_at (take at bytes) (text ++ drop (at + length text) bytes) at (length-take-le at bytes inside))
    ∙ take_at text (drop (at + length text) bytes) (length text) refl

map_same : {X Y : Type 0} (f g : X → Y) (xs : List X) → AllByRecursion (λ x. f x ≡ g x) xs → map f xs ≡ map g xs
map_same f g [] same = refl
map_same f g (x ∷ xs) same = ap (λ y. y ∷ map f xs) same.0 ∙ ap (λ ys. g x ∷ ys) (map_same f g xs same.1)

module _ (bytes : List ℕ) (entries : List Entry) (used : ℕ) (text : List ℕ) (entry : Entry)
    (room : used ≤ length bytes)
    (inside : (i : ℕ) → i < length entries → (entry_at entries i).place.start + (entry_at entries i).place.len ≤ used)
    (start : entry.place.start ≡ used) (len : entry.place.len ≡ length text) where
  pub kept_name : (i : ℕ) → i < length entries → name_in (paste bytes used text (length text)) (entry_at entries i) ≡ name_in bytes (entry_at entries i)
  kept_name i h = part_kept bytes used text (entry_at entries i).place.start (entry_at entries i).place.len (inside i h) room

  pub new_name : name_in (paste bytes used text (length text)) entry ≡ text
  new_name =
      ap (λ n. take n (drop entry.place.start (paste bytes used text (length text)))) len
      ∙ ap (λ n. take (length text) (drop n (paste bytes used text (length text)))) start
      ∙ part_new bytes used text room

  pub names_added : names_in (paste bytes used text (length text)) (entries ++ entry ∷ []) ≡ names_in bytes entries ++ text ∷ []
  unfolding names_in
  names_added =
      let now-bytes = paste bytes used text (length text) in
      let same : map (name_in now-bytes) entries ≡ map (name_in bytes) entries = map_same (name_in now-bytes) (name_in bytes) entries (All-from_get_or (λ e. name_in now-bytes e ≡ name_in bytes e) entries blank kept_name) in
      map_push (name_in now-bytes) entries entry
      ∙ ap (λ ns. ns ++ name_in now-bytes entry ∷ []) same
      ∙ ap (λ n. map (name_in bytes) entries ++ n ∷ []) new_name
