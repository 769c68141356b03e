-- What holds of every table holds of a table without names, and still when a name is added.
use Rattle.std.proofs.Common.{◌≡◌, ℕ, suc, ◌+◌, ◌<◌, ◌≤◌, List, [], ◌∷◌, ◌++◌, length, get_or, set, Some, None, Option, sym, refl, ap, ◌∙◌, subst, inl, inr, arith}
use lib.Seq.{paste}
use Rattle.std.proofs.lemmas.List.{get_or_push, get_or_append_left, length-append}
use Rattle.std.proofs.lemmas.Bool.{cases_eq}
use Rattle.objects.specs.Operators.{operator_named}
use Rattle.names.specs.declared.entry.Entry.{Entry}
use Rattle.names.specs.Index.{blank, entry_at, name_in, names_in, bucket_of, latest, Sound}
use Rattle.names.specs.Names.{place_of, bytes_in, Apart}
use Rattle.names.proofs.Added.{kept_name, new_name, names_added}
use Rattle.names.proofs.Laid.{length_names}
use Rattle.names.proofs.Places.{own_added, bytes_added}
use Rattle.names.proofs.Chains.{latest_kept, newest_added}

pub no_names : (bytes : List ℕ) → names_in bytes [] ≡ []
unfolding names_in
no_names bytes = refl

pub sound_empty : (bytes : List ℕ) (heads : List (Option ℕ)) → ((b : ℕ) → b < 1024 → get_or heads b None ≡ None) → Sound bytes 0 [] heads
unfolding names_in bytes_in latest
sound_empty bytes heads none = record {
  room = omega arith;
  inside = λ i h. absurd (omega arith);
  filled = refl;
  told = λ i h. absurd (omega arith);
  apart = λ i h. absurd (omega arith);
  newest = none;
  linked = λ i h. absurd (omega arith);
}

module _ (bytes : List ℕ) (entries : List Entry) (heads : List (Option ℕ)) (used : ℕ) (text : List ℕ) (entry : Entry)
    (sound : Sound bytes used entries heads) (size : length bytes ≡ 8192) (buckets : length heads ≡ 1024)
    (new : place_of text (names_in bytes entries) ≡ None) (fits : used + length text ≤ 8192)
    (start : entry.place.start ≡ used) (len : entry.place.len ≡ length text)
    (operator : entry.operator ≡ operator_named text) (next : entry.next ≡ get_or heads (bucket_of text) None) (low : bucket_of text < 1024) where
  above : used ≤ length bytes
  above = omega (arith, size, fits)

  pub added : names_in (paste bytes used text (length text)) (entries ++ entry ∷ []) ≡ names_in bytes entries ++ text ∷ []
  added = names_added bytes entries used text entry above sound.inside start len

  at_new : entry_at (entries ++ entry ∷ []) (length entries) ≡ entry
  at_new = get_or_push entries entry blank (length entries) refl

  at_old : (i : ℕ) → i < length entries → entry_at (entries ++ entry ∷ []) i ≡ entry_at entries i
  at_old i h = get_or_append_left entries (entry ∷ []) blank i h

  name_new : name_in (paste bytes used text (length text)) (entry_at (entries ++ entry ∷ []) (length entries)) ≡ text
  name_new = ap (name_in (paste bytes used text (length text))) at_new ∙ new_name bytes entries used text entry above sound.inside start len

  name_old : (i : ℕ) → i < length entries → name_in (paste bytes used text (length text)) (entry_at (entries ++ entry ∷ []) i) ≡ name_in bytes (entry_at entries i)
  name_old i h = ap (name_in (paste bytes used text (length text))) (at_old i h) ∙ kept_name bytes entries used text entry above sound.inside start len i h

  more : length (entries ++ entry ∷ []) ≡ suc (length entries)
  more = omega (arith, length-append entries (entry ∷ []))

  -- what holds of each old entry and of the new one holds of each
  each : (P : ℕ → Type 0) → ((i : ℕ) → i < length entries → P i) → P (length entries) → (i : ℕ) → i < length (entries ++ entry ∷ []) → P i
  each P old this i h = elim (cases_eq i (length entries)) [ inl at ↦ subst P (sym at) this | inr other ↦ old i (omega (arith, other, more, h)) ]

  all : length (names_in bytes entries) ≡ length entries
  all = length_names bytes entries

  pub sound_added : Sound (paste bytes used text (length text)) (used + length text) (entries ++ entry ∷ []) (set heads (bucket_of text) (Some (length entries)))
  sound_added =
      let written = paste bytes used text (length text) in
      let entered = entries ++ entry ∷ [] in
      let names = names_in bytes entries in
      let now-names = names_in written entered in
      record {
        room = fits;
        inside = each (λ i. (entry_at entered i).place.start + (entry_at entered i).place.len ≤ used + length text)
            (λ i h. subst (λ e. e.place.start + e.place.len ≤ used + length text) (sym (at_old i h)) (omega (arith, sound.inside i h)))
            (subst (λ e. e.place.start + e.place.len ≤ used + length text) (sym at_new) (omega (arith, start, len)));
        filled = ap bytes_in added ∙ bytes_added text names ∙ ap (λ n. n + length text) sound.filled;
        told = each (λ i. (entry_at entered i).operator ≡ operator_named (name_in written (entry_at entered i)))
            (λ i h. ap (λ e. e.operator) (at_old i h) ∙ sound.told i h ∙ sym (ap operator_named (name_old i h)))
            (ap (λ e. e.operator) at_new ∙ operator ∙ sym (ap operator_named name_new));
        apart = subst Apart (sym added) (own_added text names new sound.apart);
        newest = λ b h.
            newest_added b names text heads (length entries) (sym all) (omega (arith, buckets, low)) (omega (arith, buckets, h)) (sound.newest b h)
            ∙ ap (λ ns. latest b ns (suc (length entries))) (sym added)
            ∙ ap (latest b now-names) (sym more);
        linked = each (λ i. (entry_at entered i).next ≡ latest (bucket_of (name_in written (entry_at entered i))) now-names i)
            (λ i h.
            let b = bucket_of (name_in bytes (entry_at entries i)) in
            ap (λ e. e.next) (at_old i h) ∙ sound.linked i h
            ∙ sym (latest_kept b names (text ∷ []) i (omega (arith, all, h)))
            ∙ ap (λ ns. latest b ns i) (sym added)
            ∙ ap (λ t. latest (bucket_of t) now-names i) (sym (name_old i h)))
            (ap (λ e. e.next) at_new ∙ next ∙ sound.newest (bucket_of text) low
            ∙ sym (latest_kept (bucket_of text) names (text ∷ []) (length entries) (omega (arith, all)))
            ∙ ap (λ ns. latest (bucket_of text) ns (length entries)) (sym added)
            ∙ ap (λ t. latest (bucket_of t) now-names (length entries)) (sym name_new));
      }
