-- A name keeps its number, whatever joins later.
use Rattle.std.proofs.Common.{◌≡◌, ℕ, suc, Bool, true, false, cond, List, [], ◌∷◌, ◌++◌, length, Some, None, Ok, Err, Option, Result, sym, refl, ap, ◌∙◌, subst, inl, inr}
use Rattle.std.specs.List.{slice_get}
use Rattle.std.specs.Option.{option_map}
use Rattle.objects.specs.declared.fault.Fault.{Fault}
use Rattle.objects.specs.declared.fault.Fault.TheVariants.{LimitCheck}
use Rattle.names.specs.Names.{place_of, has_room, new_answer, new_names, answer_by, names_by, join_answer, names_joined, names_after, Lasts, Apart}
use Rattle.names.proofs.Places.{texts, place_here, place_on, place_kept, place_added, own_added}

-- what is found is the text
pub place_read : (text : List ℕ) (names : List (List ℕ)) (n : ℕ) → place_of text names ≡ Some n → slice_get names n ≡ Some text
unfolding place_of
place_read text [] n e = cc
place_read text (name ∷ names) n e = elim (texts name text) [
  | inl w ↦ let here : n ≡ 0 = cc (place_here text name names w.1) in ap (slice_get (name ∷ names)) here ∙ ap Some w.1
  | inr w ↦ by (λ j at. place_read text names j at) (place_of text names) refl (sym (place_on text name names w.1) ∙ e)
]
  where
    by : ((j : ℕ) → place_of text names ≡ Some j → slice_get names j ≡ Some text) → (o : Option ℕ) → place_of text names ≡ o → option_map suc o ≡ Some n → slice_get (name ∷ names) n ≡ Some text
    by rest None at e' = cc
    by rest (Some j) at e' = let there : n ≡ suc j = cc in ap (slice_get (name ∷ names)) there ∙ rest j at

module _ (text : List ℕ) (names : List (List ℕ)) where
  place_new : (n : ℕ) → place_of text names ≡ None → new_answer text names ≡ Ok n → place_of text (new_names text names) ≡ Some n
  place_new n none answer =
      elim (has_room text names) as (λ b. cond b (Ok (length names)) (Err LimitCheck) ≡ Ok n → place_of text (cond b (names ++ text ∷ []) names) ≡ Some n) [ true ↦ λ e. place_added text names [] none ∙ ap Some cc | false ↦ λ e. cc ]
      answer

  place_by : (n : ℕ) (o : Option ℕ) → place_of text names ≡ o → answer_by o text names ≡ Ok n → place_of text (names_by o text names) ≡ Some n
  place_by n (Some k) at answer = let number : k ≡ n = cc in at ∙ ap Some number
  place_by n None at answer = place_new n at answer

  -- a text that joined is found under the number that was answered
  join_place : (n : ℕ) → join_answer text names ≡ Ok n → place_of text (names_joined text names) ≡ Some n
  join_place n answer = place_by n (place_of text names) refl answer

  new_refused : (f : Fault) → new_answer text names ≡ Err f → new_names text names ≡ names
  new_refused f answer =
      elim (has_room text names) as (λ b. cond b (Ok (length names)) (Err LimitCheck) ≡ Err f → cond b (names ++ text ∷ []) names ≡ names) [ true ↦ λ e. cc | false ↦ λ e. refl ]
      answer

  refused_by : (f : Fault) (o : Option ℕ) → answer_by o text names ≡ Err f → names_by o text names ≡ names
  refused_by f (Some k) answer = refl
  refused_by f None answer = new_refused f answer

  -- another text that joins moves no name
  kept_room : (other : List ℕ) (n : ℕ) (room : Bool) → place_of text names ≡ Some n → place_of text (cond room (names ++ other ∷ []) names) ≡ Some n
  kept_room other n true e = place_kept text names (other ∷ []) n e
  kept_room other n false e = e

  kept_by : (other : List ℕ) (n : ℕ) (o : Option ℕ) → place_of text names ≡ Some n → place_of text (names_by o other names) ≡ Some n
  kept_by other n (Some k) e = e
  kept_by other n None e = kept_room other n (has_room other names) e

after_kept : (text : List ℕ) (later names : List (List ℕ)) (n : ℕ) → place_of text names ≡ Some n → place_of text (names_after later names) ≡ Some n
unfolding names_after
after_kept text [] names n e = e
after_kept text (other ∷ later) names n e = after_kept text later (names_joined other names) n (kept_by text names other n (place_of other names) e)

lasts : (text : List ℕ) (names : List (List ℕ)) (n : ℕ) → place_of text names ≡ Some n → Lasts text n names
lasts text names n e = record {
  found = λ later. after_kept text later names n e;
  again = λ later. ap (λ o. answer_by o text (names_after later names)) (after_kept text later names n e);
  read = λ later. place_read text (names_after later names) n (after_kept text later names n e);
}

new_apart : (text : List ℕ) (names : List (List ℕ)) → place_of text names ≡ None → Apart names → Apart (new_names text names)
new_apart text names new apart =
    elim (has_room text names) as (λ b. Apart (cond b (names ++ text ∷ []) names)) [ true ↦ own_added text names new apart | false ↦ apart ]

apart_by : (text : List ℕ) (names : List (List ℕ)) (o : Option ℕ) → place_of text names ≡ o → Apart names → Apart (names_by o text names)
apart_by text names (Some n) at apart = apart
apart_by text names None at apart = new_apart text names at apart

-- what joining answers and leaves
module _ (text : List ℕ) (names left : List (List ℕ)) (answer : Result ℕ Fault) (told : answer ≡ join_answer text names) (after : left ≡ names_joined text names) where
  pub join_lasts : (n : ℕ) → answer ≡ Ok n → Lasts text n left
  join_lasts n e = subst (Lasts text n) (sym after) (lasts text (names_joined text names) n (join_place text names n (sym told ∙ e)))

  pub join_refused : (f : Fault) → answer ≡ Err f → left ≡ names
  join_refused f e = after ∙ refused_by text names f (place_of text names) (sym told ∙ e)

  pub join_apart : Apart names → Apart left
  join_apart apart = subst Apart (sym after) (apart_by text names (place_of text names) refl apart)
