-- What the fields of a table say of the names that it holds.
use Rattle.std.proofs.Common.{◌≡◌, ℕ, ◌+◌, ◌<◌, ◌≤◌, List, length, Some, None, Option, sym, ap, ◌∙◌, subst, arith, true, false}
use lib.Dec.{leb}
use Rattle.std.proofs.lemmas.Bool.Decides.{nat_tests}
use Rattle.std.specs.Borrow.{Bor}
use Rattle.std.specs.List.{slice_get, HoldsAt}
use Rattle.std.specs.Slice.{IsItemAt}
use Rattle.std.specs.Option.{option_map, option_and_then, MatchOption}
use Rattle.std.proofs.lemmas.Option.{slice_get_past, slice_get-get_or, slice_get_within, get_or_from_slice_get}
use Rattle.objects.specs.Operators.{operator_named}
use Rattle.names.specs.Names.{has_room, bytes_in, operator_at}
use Rattle.names.specs.Index.{blank, entry_at, name_in, names_in, Sound}
use Rattle.names.specs.declared.entry.Entry.{Entry}
use Rattle.names.proofs.Laid.{length_names, nth_name}

-- what `get` finds at a place, as an element of the list
module _ {X : Type 0} (xs ys : List X) (i j : ℕ) (r : Option (Bor X)) (same : xs ≡ ys) (here : i ≡ j) where
  pub no_item : IsItemAt xs i r → r ≡ None → slice_get ys j ≡ None
  no_item h none = ap (slice_get ys) (sym here) ∙ ap (λ zs. slice_get zs i) (sym same) ∙ slice_get_past xs i (grind arith)

  pub item : (x : Bor X) → IsItemAt xs i r → r ≡ Some x → slice_get ys j ≡ Some x.now
  item x h some =
      let there = subst (λ o. MatchOption o (length xs ≤ i) (λ x. (i < length xs) × HoldsAt (λ y. x.now ≡ y) xs i)) some h.3 in
      ap (slice_get ys) (sym here) ∙ ap (λ zs. slice_get zs i) (sym same) ∙ slice_get-get_or xs i x.now there.0 ∙ ap Some (sym (there.1 x.now))

module _ (bytes : List ℕ) (used : ℕ) (entries : List Entry) (heads : List (Option ℕ)) (names : List (List ℕ))
    (sound : Sound bytes used entries heads) (held : names_in bytes entries ≡ names) where
  pub names_many : length names ≡ length entries
  names_many = ap length (sym held) ∙ length_names bytes entries

  names_full : bytes_in names ≡ used
  names_full = ap bytes_in (sym held) ∙ sound.filled

  pub names_fit : bytes_in names ≤ 8192
  names_fit = let full = names_full in let room = sound.room in omega arith

  pub room_is : (text : List ℕ) → length entries < 1024 → length text ≤ 128 → leb (used + length text) 8192 ≡ has_room text names
  room_is text few short = let all = names_many in let full = names_full in grind (arith, nat_tests)

  pub names_enough : (text : List ℕ) → 1024 ≤ length entries → has_room text names ≡ false
  names_enough text many = let all = names_many in grind (arith, nat_tests)

  pub too_long : (text : List ℕ) → 128 < length text → has_room text names ≡ false
  too_long text long = grind (arith, nat_tests)

  pub room_says : (text : List ℕ) → has_room text names ≡ true → (length entries < 1024) × (length text ≤ 128) × (used + length text ≤ 8192)
  room_says text room = let all = names_many in let full = names_full in (grind (arith, nat_tests), grind (arith, nat_tests), grind (arith, nat_tests))

  pub no_name : (i : ℕ) → slice_get entries i ≡ None → slice_get names i ≡ None
  no_name i none = ap (λ ns. slice_get ns i) (sym held) ∙ nth_name bytes entries i ∙ ap (option_map (name_in bytes)) none

  pub the_name : (i : ℕ) (entry : Entry) → slice_get entries i ≡ Some entry → slice_get names i ≡ Some (name_in bytes entry)
  the_name i entry some = ap (λ ns. slice_get ns i) (sym held) ∙ nth_name bytes entries i ∙ ap (option_map (name_in bytes)) some

  module _ (i : ℕ) (entry : Entry) (some : slice_get entries i ≡ Some entry) where
    low : i < length entries
    low = slice_get_within entries i entry some

    same : entry_at entries i ≡ entry
    same = get_or_from_slice_get entries i entry blank some

    pub name_within : length bytes ≡ 8192 → entry.place.start + entry.place.len ≤ length bytes
    name_within size = subst (λ e. e.place.start + e.place.len ≤ length bytes) same (omega (arith, sound.inside i low, sound.room, size))

    pub operator_told : entry.operator ≡ operator_at i names
    operator_told =
        subst (λ e. e.operator ≡ operator_named (name_in bytes e)) same (sound.told i low)
        ∙ sym (ap (option_and_then operator_named) (the_name i entry some))
