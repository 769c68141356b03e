-- Copies in a second memory, level by level.
use Rattle.std.proofs.Common.{◌≡◌, ℕ, zero, suc, ◌+◌, ◌-◌, ◌*◌, ◌<◌, ◌≤◌, min, true, ltb, List, [], ◌∷◌, ◌++◌, length, get_or, take, drop, set, sym, refl, ap, ◌∙◌, ⊎_elim, suc-mul, add-one, arith}
use borrow.Rule.Slice.PartMut.{put_mid}
use Rattle.std.proofs.lemmas.List.{append-nil, take-append-drop, take_rest, take_all, take-take, take-append-le, take_at, drop_at, drop_all, drop-take, length_push, length-take-le, length-drop, set-append_right, get_or_append_left, get_or_push}
use lib.Seq.{paste}
use Rattle.std.proofs.lemmas.List.Edits.{take-paste, length-paste}
use Rattle.std.proofs.lemmas.Bool.{cases_lt, lt-ltb}
use Rattle.objects.specs.declared.object.Object.{Object}
use Rattle.objects.specs.Outcomes.{after}
use Rattle.keepers.specs.Kept.{Kept, open_level, back_to, level_limit}
use Rattle.keepers.specs.Copies.{copy_levels}
use Rattle.keepers.proofs.Kept.{kept_same}

-- a store into the part from a place is a store into the whole
pub set_in_part : {X : Type 0} (xs ys : List X) (from at : ℕ) (x : X) → from ≤ length xs → ys ≡ set (take (length xs - from) (drop from xs)) at x → put_mid from (length xs - from) xs ys ≡ set xs (from + at) x
set_in_part xs ys from at x h e =
    let whole = take-append-drop from xs in
    let rest = take_rest xs from in
    let front : length (take from xs) ≡ from = length-take-le from xs h in
    let gone : drop (length xs - from) (drop from xs) ≡ [] = drop_all (length xs - from) (drop from xs) (simp length-drop (omega arith)) in
    let there = set-append_right (take from xs) (drop from xs) from (from + at) x front (omega arith) in
    let place : from + at - from ≡ at = omega arith in
    let none = append-nil ys in
    cc

pub length_copy_levels : (k n : ℕ) (xs : List Object) → length (copy_levels k n xs) ≡ k
unfolding copy_levels
length_copy_levels zero n xs = refl
length_copy_levels (suc k) n xs =
    length_push (copy_levels k n xs) _ ∙ ap (λ m. m + 1) (length_copy_levels k n xs) ∙ add-one k

-- levels lie below k times the slot count
pub copy_levels_same : (k n : ℕ) (xs ys : List Object) → take (k * n) xs ≡ take (k * n) ys → copy_levels k n xs ≡ copy_levels k n ys
unfolding copy_levels
copy_levels_same zero n xs ys e = refl
copy_levels_same (suc k) n xs ys e =
    let more : suc k * n ≡ k * n + n = suc-mul k n in
    let all : take (k * n + n) xs ≡ take (k * n + n) ys = rw more at e in
    let older : take (k * n) xs ≡ take (k * n) ys =
    sym (take-take (k * n) (k * n + n) xs (omega arith)) ∙ ap (take (k * n)) all ∙ take-take (k * n) (k * n + n) ys (omega arith) in
    let newest : take n (drop (k * n) xs) ≡ take n (drop (k * n) ys) =
    sym (drop-take (k * n) n xs) ∙ ap (drop (k * n)) all ∙ drop-take (k * n) n ys in
    let below = copy_levels_same k n xs ys older in
    cc

pub take_copy_levels : (j k n : ℕ) (xs : List Object) → j ≤ k → take j (copy_levels k n xs) ≡ copy_levels j n xs
unfolding copy_levels
take_copy_levels j zero n xs h =
    let none : j ≡ 0 = omega arith in
    simp none
take_copy_levels j (suc k) n xs h =
    let many = length_copy_levels k n xs in
    ⊎_elim
    (λ less. take-append-le j (copy_levels k n xs) _ (omega arith) ∙ take_copy_levels j k n xs (omega arith))
    (λ more. let all : j ≡ suc k = omega arith in let long = length_push (copy_levels k n xs) (take n (drop (k * n) xs)) in
    take_all j _ (omega arith) ∙ sym (ap (λ m. copy_levels m n xs) all))
    (cases_lt j (suc k))

pub getD_copy_levels : (j k n : ℕ) (xs : List Object) → j < k → get_or (copy_levels k n xs) j [] ≡ take n (drop (j * n) xs)
unfolding copy_levels
getD_copy_levels j zero n xs h = absurd (omega arith)
getD_copy_levels j (suc k) n xs h =
    let many = length_copy_levels k n xs in
    ⊎_elim
    (λ less. get_or_append_left (copy_levels k n xs) _ [] j (omega arith) ∙ getD_copy_levels j k n xs less)
    (λ more. let last : j ≡ k = omega arith in
    get_or_push (copy_levels k n xs) _ [] j (omega arith) ∙ sym (ap (λ m. take n (drop (m * n) xs)) last))
    (cases_lt j k)

-- slots copied to the place of the next level
pub copy_levels_push : (k : ℕ) (slots copies new : List Object) → k * length slots + length slots ≤ length copies → new ≡ paste copies (k * length slots) slots (length slots) → copy_levels (k + 1) (length slots) new ≡ copy_levels k (length slots) copies ++ slots ∷ []
unfolding copy_levels
copy_levels_push k slots copies new room e =
    let n = length slots in
    let base = k * n in
    let all : take (base + n) new ≡ take base copies ++ slots =
    ap (take (base + n)) e ∙ take-paste copies base slots n (omega arith) (omega arith)
    ∙ ap (λ s. take base copies ++ s) (take_all n slots (omega arith)) in
    let size : length (take base copies) ≡ base = length-take-le base copies (omega arith) in
    let older : take base new ≡ take base copies =
    sym (take-take base (base + n) new (omega arith)) ∙ ap (take base) all ∙ take_at (take base copies) slots base size in
    let newest : take n (drop base new) ≡ slots =
    sym (drop-take base n new) ∙ ap (drop base) all ∙ drop_at (take base copies) slots base size in
    let below = copy_levels_same k n new copies older in
    ap (λ m. copy_levels m n new) (add-one k) ∙ cc

-- what memories and a number of opened levels stand for
abbrev pub standing : List Object → List ℕ → List Object → ℕ → Kept
standing slots bytes copies opened = record {
  slots = slots;
  bytes = bytes;
  levels = copy_levels (min opened (level_limit (length slots) (length copies))) (length slots) copies;
  limit = level_limit (length slots) (length copies);
}

module _ (slots slots' copies copies' : List Object) (bytes bytes' : List ℕ) (opened depth : ℕ) (is : depth ≡ min opened (level_limit (length slots) (length copies))) where
  open_accepted : depth < level_limit (length slots) (length copies) → ltb (length (standing slots bytes copies opened).levels) (level_limit (length slots) (length copies)) ≡ true
  open_accepted h = lt-ltb _ _ (let many = length_copy_levels (min opened (level_limit (length slots) (length copies))) (length slots) copies in omega arith)

  back_accepted : (level : ℕ) → level < depth → ltb level (length (standing slots bytes copies opened).levels) ≡ true
  back_accepted level h = lt-ltb _ _ (let many = length_copy_levels (min opened (level_limit (length slots) (length copies))) (length slots) copies in omega arith)

  pub open_leaves : depth < level_limit (length slots) (length copies) → depth * length slots + length slots ≤ length copies → slots' ≡ slots → bytes' ≡ bytes → copies' ≡ paste copies (depth * length slots) slots (length slots) → standing slots' bytes' copies' (depth + 1) ≡ after (open_level (standing slots bytes copies opened)) (standing slots bytes copies opened)
  open_leaves h room p q e =
      let n = length slots in
      let same : length slots' ≡ n = ap length p in
      let long : length copies' ≡ length copies = ap length e ∙ length-paste copies (depth * n) slots n room (omega arith) in
      let limit : level_limit (length slots') (length copies') ≡ level_limit n (length copies) = cc in
      let top : min (depth + 1) (level_limit (length slots') (length copies')) ≡ depth + 1 = omega arith in
      let pushed = copy_levels_push depth slots copies copies' room e in
      rw (open_accepted h) (kept_same _ _ p q (cc) limit)

  pub back_leaves : (level : ℕ) → level < depth → slots' ≡ take (length slots) (drop (level * length slots) copies) → level * length slots + length slots ≤ length copies → bytes' ≡ bytes → copies' ≡ copies → standing slots' bytes' copies' level ≡ after (back_to level (standing slots bytes copies opened)) (standing slots bytes copies opened)
  back_leaves level h e room q p =
      let n = length slots in
      let same : length slots' ≡ n = ap length e ∙ length-take-le n (drop (level * n) copies) (simp length-drop (omega arith)) in
      let long : length copies' ≡ length copies = ap length p in
      let limit : level_limit (length slots') (length copies') ≡ level_limit n (length copies) = cc in
      let top : min level (level_limit (length slots') (length copies')) ≡ level = omega arith in
      let older = take_copy_levels level (min opened (level_limit n (length copies))) n copies (omega arith) in
      let there = getD_copy_levels level (min opened (level_limit n (length copies))) n copies (omega arith) in
      rw (back_accepted level h) (kept_same _ _ (e ∙ sym there) q (cc) limit)
