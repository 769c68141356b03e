-- The chain of a bucket leads to every name of the bucket, newest first.
use Rattle.std.proofs.Common.{◌≡◌, ℕ, zero, suc, ◌<◌, ◌≤◌, cond, eqb, List, [], ◌∷◌, ◌++◌, length, get_or, set, Some, None, Option, sym, refl, ap, ◌∙◌, subst, inl, inr, arith}
use Rattle.std.proofs.lemmas.Bool.{cond-true, cond-false, cases_eq, eq-eqb, ne_eqb}
use Rattle.std.proofs.lemmas.List.{get_or_push, get_or_append_left, get_or-set_same, get_or-set_other}
use Rattle.names.specs.Index.{bucket_of, latest}
use Rattle.names.specs.Names.{place_of}
use Rattle.names.proofs.Places.{last_of, last_zero, last_here, last_on, last_is_place}

-- a link speaks of the names up to the one that it leads to
abbrev pub up_to : Option ℕ → ℕ
up_to None = 0
up_to (Some k) = suc k

module _ (bucket : ℕ) (names : List (List ℕ)) where
  pub latest_here : (n : ℕ) → bucket_of (get_or names n []) ≡ bucket → latest bucket names (suc n) ≡ Some n
  unfolding latest
  latest_here n e = cond-true _ _ _ (eq-eqb (bucket_of (get_or names n [])) bucket e)

  pub latest_on : (n : ℕ) → (bucket_of (get_or names n []) ≡ bucket → ⊥) → latest bucket names (suc n) ≡ latest bucket names n
  unfolding latest
  latest_on n ne = cond-false _ _ _ (ne_eqb (bucket_of (get_or names n [])) bucket ne)

-- a link of the text's bucket: no name above it has the bytes of the text
pub record Leads (text : List ℕ) (names : List (List ℕ)) (n : ℕ) (link : Option ℕ) : Type 0 where
  pub below : up_to link ≤ n
  pub in_bucket : (k : ℕ) → link ≡ Some k → bucket_of (get_or names k []) ≡ bucket_of text
  pub skips : last_of text names (up_to link) ≡ last_of text names n

module _ (text : List ℕ) (names : List (List ℕ)) where
  latest_none : (n : ℕ) → latest n names 0 ≡ None
  unfolding latest
  latest_none n = refl

  pub latest_leads : (n : ℕ) → Leads text names n (latest (bucket_of text) names n)
  latest_leads zero =
      subst (Leads text names 0) (sym (latest_none (bucket_of text)))
      (record { below = omega arith; in_bucket = λ k e. let z : ◌≡◌ {A = ℕ} 0 1 = cc in absurd (omega arith); skips = refl })
  latest_leads (suc n) = elim (cases_eq (bucket_of (get_or names n [])) (bucket_of text)) [
    | inl same ↦
        subst (Leads text names (suc n)) (sym (latest_here (bucket_of text) names n same))
        (record { below = omega arith; in_bucket = λ k e. let at : n ≡ k = cc in ap (λ i. bucket_of (get_or names i [])) (sym at) ∙ same; skips = refl })
    | inr other ↦
        let before = latest_leads n in
        subst (Leads text names (suc n)) (sym (latest_on (bucket_of text) names n other))
        (record {
          below = omega (arith, before.below);
          in_bucket = before.in_bucket;
          skips = before.skips ∙ sym (last_on text names n (λ e. other (ap bucket_of e)));
        })
  ]

  module _ (n : ℕ) (link : Option ℕ) (leads : Leads text names n link) where
    -- the name that the link leads to is another: on to the link that it has
    pub leads_on : (k : ℕ) → link ≡ Some k → (get_or names k [] ≡ text → ⊥) → (next : Option ℕ) → next ≡ latest (bucket_of (get_or names k [])) names k → Leads text names n next × (up_to next < up_to link)
    leads_on k at other next e =
        let there : bucket_of (get_or names k []) ≡ bucket_of text = leads.in_bucket k at in
        let far : up_to link ≡ suc k = ap up_to at in
        let before = subst (Leads text names k) (sym (e ∙ ap (λ b. latest b names k) there)) (latest_leads k) in (
          record {
            below = omega (arith, before.below, leads.below);
            in_bucket = before.in_bucket;
            skips = before.skips ∙ sym (last_on text names k other) ∙ ap (last_of text names) (sym far) ∙ leads.skips;
          },
          omega (arith, before.below),
        )

    module _ (all : length names ≡ n) (own : (i : ℕ) → i < length names → place_of (get_or names i []) names ≡ Some i) where
      whole : last_of text names n ≡ place_of text names
      whole = ap (last_of text names) (sym all) ∙ last_is_place text names own

      pub leads_here : (k : ℕ) → link ≡ Some k → get_or names k [] ≡ text → Some k ≡ place_of text names
      leads_here k at same = sym (last_here text names k same) ∙ ap (λ o. last_of text names (up_to o)) (sym at) ∙ leads.skips ∙ whole

      pub leads_nowhere : link ≡ None → None ≡ place_of text names
      leads_nowhere at = sym (last_zero text names) ∙ ap (λ o. last_of text names (up_to o)) (sym at) ∙ leads.skips ∙ whole

-- what comes behind the names does not matter to those before
pub latest_kept : (bucket : ℕ) (names more : List (List ℕ)) (n : ℕ) → n ≤ length names → latest bucket (names ++ more) n ≡ latest bucket names n
unfolding latest
latest_kept bucket names more zero h = refl
latest_kept bucket names more (suc n) h =
    ap (λ t. cond (eqb (bucket_of t) bucket) (Some n) (latest bucket (names ++ more) n)) (get_or_append_left names more [] n (omega arith))
    ∙ ap (λ o. cond (eqb (bucket_of (get_or names n [])) bucket) (Some n) o) (latest_kept bucket names more n (omega arith))

-- the newest name of each bucket when a name is added
pub newest_added : (bucket : ℕ) (names : List (List ℕ)) (text : List ℕ) (heads : List (Option ℕ)) (n : ℕ) → n ≡ length names → bucket_of text < length heads → bucket < length heads → get_or heads bucket None ≡ latest bucket names n → get_or (set heads (bucket_of text) (Some n)) bucket None ≡ latest bucket (names ++ text ∷ []) (suc n)
newest_added bucket names text heads n all inside low head =
    let last : get_or (names ++ text ∷ []) n [] ≡ text = get_or_push names text [] n (sym all) in
    elim (cases_eq bucket (bucket_of text)) [
      | inl here ↦
          ap (λ b. get_or (set heads (bucket_of text) (Some n)) b None) here
          ∙ get_or-set_same heads (bucket_of text) (Some n) None inside
          ∙ sym (latest_here bucket (names ++ text ∷ []) n (ap bucket_of last ∙ sym here))
      | inr other ↦
          get_or-set_other heads (bucket_of text) bucket (Some n) None other
          ∙ head
          ∙ sym (latest_kept bucket names (text ∷ []) n (omega arith))
          ∙ sym (latest_on bucket (names ++ text ∷ []) n (λ e. other (sym e ∙ ap bucket_of last)))
    ]
