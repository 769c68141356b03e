-- A list read from its end: what is dropped, taken and written there. The first n places of an array are an operand stack so.
use Rattle.std.proofs.Common.{◌≡◌, ℕ, ◌+◌, ◌-◌, ◌<◌, ◌≤◌, List, ◌++◌, reverse, length, get_or, take, drop, set, sym, ap, ◌∙◌, inl, inr, arith}
use lib.Seq.{paste}
use borrow.Rule.Slice.PartMut.{put_mid}
use Rattle.std.proofs.lemmas.List.{length-reverse, length-take-le, length-drop, length-set, take-take, take-append-drop, take-append-le, reverse-append, append_assoc, take_at, drop_at, drop_all, drop-take, get_or-reverse, get_or-take, get_or-set_same, get_or-set_other, same_lists, places}
use Rattle.std.proofs.lemmas.List.Edits.{take-paste}
use Rattle.std.proofs.lemmas.Slice.{take-put_mid}
use Rattle.std.proofs.lemmas.Bool.{cases_eq, cases_lt}
use Rattle.std.proofs.lemmas.Grind.{common_steps}
use Rattle.objects.specs.declared.object.Object.{Object}
use Rattle.stacks.specs.Stacked.{turned, rolled}
use Rattle.stacks.proofs.Turns.{rolled_turns}

module _ {X : Type 0} where
  parts : (m : ℕ) (xs : List X) → reverse xs ≡ reverse (drop m xs) ++ reverse (take m xs)
  parts m xs = ap reverse (sym (take-append-drop m xs)) ∙ reverse-append (take m xs) (drop m xs)

  length_last : (k : ℕ) (xs : List X) → k ≤ length xs → length (reverse (drop (length xs - k) xs)) ≡ k
  length_last k xs h = length-reverse (drop (length xs - k) xs) ∙ length-drop (length xs - k) xs ∙ omega arith

  pub drop_reverse : (k : ℕ) (xs : List X) → drop k (reverse xs) ≡ reverse (take (length xs - k) xs)
  drop_reverse k xs = elim (cases_lt (length xs) k) [
    | inl past ↦
        let none : length xs - k ≡ 0 = omega arith in
        drop_all k (reverse xs) (simp length-reverse (omega arith)) ∙ sym (ap (λ m. reverse (take m xs)) none)
    | inr within ↦ ap (drop k) (parts (length xs - k) xs) ∙ drop_at (reverse (drop (length xs - k) xs)) (reverse (take (length xs - k) xs)) k (length_last k xs within)
  ]

  pub take_reverse : (k : ℕ) (xs : List X) → k ≤ length xs → take k (reverse xs) ≡ reverse (drop (length xs - k) xs)
  take_reverse k xs h = ap (take k) (parts (length xs - k) xs) ∙ take_at (reverse (drop (length xs - k) xs)) (reverse (take (length xs - k) xs)) k (length_last k xs h)

  -- the first n places without the last k of them
  pub drop_front : (k n : ℕ) (xs : List X) → n ≤ length xs → drop k (reverse (take n xs)) ≡ reverse (take (n - k) xs)
  drop_front k n xs h =
      drop_reverse k (take n xs)
      ∙ ap (λ m. reverse (take (m - k) (take n xs))) (length-take-le n xs h)
      ∙ ap reverse (take-take (n - k) n xs (omega arith))

  pub length_front : (n : ℕ) (xs : List X) → n ≤ length xs → length (reverse (take n xs)) ≡ n
  length_front n xs h = length-reverse (take n xs) ∙ length-take-le n xs h

  front_at : (n k : ℕ) (xs : List X) (d : X) → k < n → n ≤ length xs → get_or (reverse (take n xs)) k d ≡ get_or xs (n - 1 - k) d
  front_at n k xs d low h =
      let size = length-take-le n xs h in
      get_or-reverse (take n xs) k d (omega arith)
      ∙ ap (λ m. get_or (take n xs) (m - 1 - k) d) size
      ∙ get_or-take n xs (n - 1 - k) d (omega arith)

  -- another element at the i-th place from the n-th down
  pub set_front : (n i : ℕ) (xs : List X) (x : X) → i < n → n ≤ length xs → reverse (take n (set xs (n - 1 - i) x)) ≡ set (reverse (take n xs)) i x
  set_front n i xs x h long =
      let ys : List X = set xs (n - 1 - i) x in
      let same = length-set xs (n - 1 - i) x in
      let size = length_front n xs long in
      let size' = length_front n ys (omega arith) in
      same_lists _ _ (size' ∙ sym (length-set (reverse (take n xs)) i x ∙ size)) (λ k d low.
      front_at n k ys d (omega arith) (omega arith) ∙ elim (cases_eq k i) [
        | inl here ↦
            ap (λ j. get_or ys (n - 1 - j) d) here
            ∙ get_or-set_same xs (n - 1 - i) x d (omega arith)
            ∙ sym (get_or-set_same (reverse (take n xs)) i x d (omega arith))
            ∙ sym (ap (λ j. get_or (set (reverse (take n xs)) i x) j d) here)
        | inr other ↦
            get_or-set_other xs (n - 1 - i) (n - 1 - k) x d (λ e. other (omega arith))
            ∙ sym (front_at n k xs d (omega arith) long)
            ∙ sym (get_or-set_other (reverse (take n xs)) i k x d other)
      ])

  -- the last k of the first n places copied to those above them
  pub copied : (k n m : ℕ) (xs : List X) → k ≤ n → n ≤ length xs → m ≡ k → reverse (take (n + k) (paste xs n (drop (n - k) xs) m)) ≡ take k (reverse (take n xs)) ++ reverse (take n xs)
  copied k n m xs h long same =
      let size = length-take-le n xs long in
      let whole : n - k + k ≡ n = omega arith in
      let group : drop (n - k) (take n xs) ≡ take k (drop (n - k) xs) = ap (λ j. drop (n - k) (take j xs)) (sym whole) ∙ drop-take (n - k) k xs in
      let top : take k (reverse (take n xs)) ≡ reverse (take k (drop (n - k) xs)) =
      take_reverse k (take n xs) (omega arith)
      ∙ ap (λ j. reverse (drop (j - k) (take n xs))) size
      ∙ ap reverse group in
      ap (λ j. reverse (take (n + k) (paste xs n (drop (n - k) xs) j))) same
      ∙ ap reverse (take-paste xs n (drop (n - k) xs) k long (simp length-drop (omega arith)))
      ∙ reverse-append (take n xs) (take k (drop (n - k) xs))
      ∙ ap (λ ys. ys ++ reverse (take n xs)) (sym top)

  -- a list laid on the first n places
  pub laid : (n m k : ℕ) (xs ys : List X) → n ≤ length xs → k ≡ length ys → reverse (take (n + k) (put_mid n m xs ys)) ≡ reverse ys ++ reverse (take n xs)
  laid n m k xs ys long same = ap reverse (take-put_mid n m xs ys (n + k) (omega arith) long) ∙ reverse-append (take n xs) ys

  -- a list whose last elements are rotated
  turned_reverse : (low group : List X) (k : ℕ) → k < length group → turned (length group) k (reverse (low ++ group)) ≡ reverse (low ++ (drop (length group - k) group ++ take (length group - k) group))
  turned_reverse low group k h =
      let n : ℕ = length group in
      let whole : reverse (low ++ group) ≡ reverse group ++ reverse low = reverse-append low group in
      let size = length-reverse group in
      let top : take n (reverse (low ++ group)) ≡ reverse group = ap (take n) whole ∙ take_at (reverse group) (reverse low) n size in
      let under : drop n (reverse (low ++ group)) ≡ reverse low = ap (drop n) whole ∙ drop_at (reverse group) (reverse low) n size in
      let first : take k (reverse (low ++ group)) ≡ reverse (drop (n - k) group) = ap (take k) whole ∙ take-append-le k (reverse group) (reverse low) (omega arith) ∙ take_reverse k group (omega arith) in
      let others : drop k (take n (reverse (low ++ group))) ≡ reverse (take (n - k) group) = ap (drop k) top ∙ drop_reverse k group in
      let turned_group = reverse-append (drop (n - k) group) (take (n - k) group) in
      let result = reverse-append low (drop (n - k) group ++ take (n - k) group) in
      let joined = append_assoc (reverse (take (n - k) group)) (reverse (drop (n - k) group)) (reverse low) in
      cc

  -- the last n of the first places rotated: the last k of them come first
  rotated : (xs ys : List X) (depth n m k : ℕ) → k < n → n ≤ depth → depth ≤ length xs → m ≡ n → ys ≡ drop (length (take m (drop (depth - n) xs)) - k) (take m (drop (depth - n) xs)) ++ take (length (take m (drop (depth - n) xs)) - k) (take m (drop (depth - n) xs)) → reverse (take depth (put_mid (depth - n) m xs ys)) ≡ turned n k (reverse (take depth xs))
  rotated xs ys depth n m k less h long all e =
      let group : List X = take m (drop (depth - n) xs) in
      let size : length group ≡ n = length-take-le m (drop (depth - n) xs) (simp length-drop (omega arith)) ∙ all in
      let whole : depth - n + m ≡ depth = omega arith in
      let split : take depth xs ≡ take (depth - n) xs ++ group =
      sym (take-append-drop (depth - n) (take depth xs))
      ∙ ap (λ zs. zs ++ drop (depth - n) (take depth xs)) (take-take (depth - n) depth xs (omega arith))
      ∙ ap (λ zs. take (depth - n) xs ++ zs) (ap (λ j. drop (depth - n) (take j xs)) (sym whole) ∙ drop-take (depth - n) m xs) in
      let many : length ys ≡ n = ap length e ∙ grind (arith, places) in
      ap reverse (take-put_mid (depth - n) m xs ys depth (omega arith) (omega arith))
      ∙ ap (λ zs. reverse (take (depth - n) xs ++ zs)) e
      ∙ sym (turned_reverse (take (depth - n) xs) group k (omega arith))
      ∙ ap (λ j. turned j k (reverse (take (depth - n) xs ++ group))) size
      ∙ ap (λ zs. turned n k (reverse zs)) (sym split)

pub rolled_front : (xs ys : List Object) (depth n m k stopped : ℕ) → k < n → n ≤ depth → depth ≤ length xs → m ≡ n → ys ≡ drop (length (take m (drop (depth - n) xs)) - k) (take m (drop (depth - n) xs)) ++ take (length (take m (drop (depth - n) xs)) - k) (take m (drop (depth - n) xs)) → record { objects = reverse (take depth (put_mid (depth - n) m xs ys)); stopped = stopped } ≡ rolled n k (record { objects = reverse (take depth xs); stopped = stopped })
rolled_front xs ys depth n m k stopped less h long all e =
    ap (λ os. record { objects = os; stopped = stopped }) (rotated xs ys depth n m k less h long all e)
    ∙ sym (rolled_turns n k (record { objects = reverse (take depth xs); stopped = stopped }) less (omega (arith, length_front depth xs long)))

-- what the check tries where an operand stack changes
pub ruleset fronts = (common_steps, length_front, drop_reverse, drop_front, set_front, copied, laid)
