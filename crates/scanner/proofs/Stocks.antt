-- The elements of open procedures, one behind the other.
use Rattle.std.proofs.Common.{◌≡◌, ℕ, suc, ◌+◌, ◌-◌, ◌<◌, ◌≤◌, List, [], ◌∷◌, ◌++◌, reverse, length, get_or, take, drop, set, sym, refl, ap, ◌∙◌, add_assoc, arith}
use Rattle.std.proofs.lemmas.List.{take_more_set, take_more, take_all, drop_all, reverse-append, length-append, length-drop, length-reverse, length-take-le, drop-append-le, take-append-le, drop-take, take-take}
use Rattle.std.proofs.lemmas.Bool.{cond-true, cond-false, lt-ltb, le-ltb}
use Rattle.objects.specs.declared.fault.Fault.TheVariants.{SyntaxError, LimitCheck}
use Rattle.scanner.specs.Stocks.{going, complete, last, failed, opened, finished, finished_in, joined_to, ended_element, closed_over, closed, levels}
use Rattle.scanner.specs.declared.element.Element.{Element}
use Rattle.scanner.specs.declared.element.Element.TheVariants.{Procedure}

-- the sizes, the innermost first
innermost : (sizes : List ℕ) (k : ℕ) → k < length sizes → reverse (take (k + 1) sizes) ≡ get_or sizes k 0 ∷ reverse (take k sizes)
innermost sizes k h = ap reverse (take_more sizes k 0 h) ∙ reverse-append (take k sizes) (get_or sizes k 0 ∷ [])

innermost_set : (sizes : List ℕ) (k n : ℕ) → k < length sizes → reverse (take (k + 1) (set sizes k n)) ≡ n ∷ reverse (take k sizes)
innermost_set sizes k n h = ap reverse (take_more_set sizes k n h) ∙ reverse-append (take k sizes) (n ∷ [])

length_levels : (ns : List ℕ) (es : List Element) → length (levels ns es) ≡ length ns
unfolding levels
length_levels [] es = refl
length_levels (n ∷ ns) es = ap suc (length_levels ns (take (length es - n) es))

levels_open : (ns : List ℕ) (es : List Element) → levels (0 ∷ ns) es ≡ [] ∷ levels ns es
unfolding levels
levels_open ns es =
    ap (λ l. l ∷ levels ns (take (length es - 0) es)) (drop_all (length es - 0) es (omega arith)) ∙ ap (λ l. [] ∷ levels ns l) (take_all (length es - 0) es (omega arith))

levels_push : (n m : ℕ) (ns : List ℕ) (es : List Element) (x : Element) → length es + 1 - m ≡ length es - n → levels (m ∷ ns) (es ++ x ∷ []) ≡ (drop (length es - n) es ++ x ∷ []) ∷ levels ns (take (length es - n) es)
unfolding levels
levels_push n m ns es x e =
    let long : length (es ++ x ∷ []) - m ≡ length es - n = ap (λ k. k - m) (length-append es (x ∷ [])) ∙ e in
    let within : length es - n ≤ length es = omega arith in
    ap (λ k. drop k (es ++ x ∷ []) ∷ levels ns (take k (es ++ x ∷ []))) long
    ∙ ap (λ l. l ∷ levels ns (take (length es - n) (es ++ x ∷ []))) (drop-append-le (length es - n) es (x ∷ []) within)
    ∙ ap (λ l. (drop (length es - n) es ++ x ∷ []) ∷ levels ns l) (take-append-le (length es - n) es (x ∷ []) within)

-- what is open, from the sizes and the elements
abbrev nested : ℕ → List ℕ → List Element → List (List Element)
nested d sizes es = levels (reverse (take d sizes)) es

depth_of : (d : ℕ) (sizes : List ℕ) (es : List Element) → d ≤ length sizes → length (nested d sizes es) ≡ d
depth_of d sizes es h = length_levels (reverse (take d sizes)) es ∙ length-reverse (take d sizes) ∙ length-take-le d sizes h

module _ (shut : List Element) (count : ℕ) (sizes : List ℕ) (es : List Element) (d : ℕ) (sixteen : length sizes ≡ 16) where
  pub open_goes : d < 16 → going (record { shut = shut; pending = nested (d + 1) (set sizes d 0) es; count = count }) ≡ opened (record { shut = shut; pending = nested d sizes es; count = count })
  open_goes h =
      ap (λ l. going (record { shut = shut; pending = l; count = count })) (ap (λ ns. levels ns es) (innermost_set sizes d 0 (omega arith)) ∙ levels_open (reverse (take d sizes)) es)
      ∙ sym (cond-true _ _ _ (lt-ltb (length (nested d sizes es)) 16 (omega (arith, depth_of d sizes es (omega arith)))))

  pub open_fails : d ≡ 16 → failed LimitCheck ≡ opened (record { shut = shut; pending = nested d sizes es; count = count })
  open_fails h = sym (cond-false _ _ _ (le-ltb (length (nested d sizes es)) 16 (omega (arith, depth_of d sizes es (omega arith)))))

  pub alone : (e : Element) → d ≡ 0 → complete e (record { shut = shut; pending = nested d sizes es; count = count }) ≡ ended_element e (record { shut = shut; pending = nested d sizes es; count = count })
  unfolding levels
  alone e h = rw h refl

  pub stray : d ≡ 0 → failed SyntaxError ≡ closed (record { shut = shut; pending = nested d sizes es; count = count })
  unfolding levels
  stray h = rw h refl

  pub end_finished : d ≡ 0 → last ≡ finished (record { shut = shut; pending = nested d sizes es; count = count })
  unfolding levels
  end_finished h = rw h refl

-- with k + 1 procedures open: the elements of the innermost, and what is open around it
module _ (shut : List Element) (sizes : List ℕ) (d k : ℕ) (some : d ≡ k + 1) (within : k < length sizes) where
  opening_out : (es : List Element) → nested d sizes es ≡ drop (length es - get_or sizes k 0) es ∷ nested k sizes (take (length es - get_or sizes k 0) es)
  unfolding levels
  opening_out es = ap (λ j. nested j sizes es) some ∙ ap (λ ns. levels ns es) (innermost sizes k within)

  pub end_unfinished : (count : ℕ) (es : List Element) → failed SyntaxError ≡ finished (record { shut = shut; pending = nested d sizes es; count = count })
  end_unfinished count es = ap finished_in (sym (opening_out es))

  pub element_fails : (count : ℕ) (es : List Element) (e : Element) → 512 ≤ count → failed LimitCheck ≡ ended_element e (record { shut = shut; pending = nested d sizes es; count = count })
  element_fails count es e h = sym (cond-false _ _ _ (le-ltb count 512 h)) ∙ ap (joined_to e shut count) (sym (opening_out es))

  -- the count of the innermost goes up by one, and one more element lies behind the others
  pub element_goes : (done m n : ℕ) (places : List Element) (e : Element) → m < length places → done + m < 512 → m + 1 - n ≡ m - get_or sizes k 0
      → going (record { shut = shut; pending = nested d (set sizes k n) (take (m + 1) (set places m e)); count = done + (m + 1) }) ≡ ended_element e (record { shut = shut; pending = nested d sizes (take m places); count = done + m })
  element_goes done m n places e there few same =
      let es = take m places in
      let long : length es ≡ m = length-take-le m places (omega arith) in
      let size = get_or sizes k 0 in
      let after : nested d (set sizes k n) (take (m + 1) (set places m e)) ≡ (drop (length es - size) es ++ e ∷ []) ∷ nested k sizes (take (length es - size) es) =
      ap (λ j. nested j (set sizes k n) (take (m + 1) (set places m e))) some ∙ ap (λ ns. levels ns (take (m + 1) (set places m e))) (innermost_set sizes k n within)
      ∙ ap (levels (n ∷ reverse (take k sizes))) (take_more_set places m e there)
      ∙ levels_push size n (reverse (take k sizes)) es e (ap (λ j. j + 1 - n) long ∙ same ∙ ap (λ j. j - size) (sym long)) in
      let counted = sym (add_assoc done m 1) in
      (λ i. going (record { shut = shut; pending = after i; count = counted i }))
      ∙ sym (cond-true _ _ _ (lt-ltb (done + m) 512 few)) ∙ ap (joined_to e shut (done + m)) (sym (opening_out es))

  -- the innermost is closed: its elements lie behind those that were done
  pub close_goes : (done m start len : ℕ) (places more : List Element) → m ≤ length places → length shut ≡ done → start ≡ m - get_or sizes k 0 → len ≡ m - start → more ≡ shut ++ take len (drop start places)
      → ended_element (Procedure (record { start = done; len = len })) (record { shut = more; pending = nested k sizes (take start places); count = done + len + start }) ≡ closed (record { shut = shut; pending = nested d sizes (take m places); count = done + m })
  close_goes done m start len places more there long begins ends copied =
      let es = take m places in
      let size = get_or sizes k 0 in
      let whole : length es ≡ m = length-take-le m places there in
      let cut : length es - size ≡ start = ap (λ j. j - size) whole ∙ sym begins in
      let sum : start + len ≡ m = omega arith in
      let mine : take len (drop start places) ≡ drop (length es - size) es = sym (drop-take start len places) ∙ ap (λ j. drop start (take j places)) sum ∙ ap (λ j. drop j es) (sym cut) in
      let few : len ≡ length (drop (length es - size) es) = omega (arith, length-drop (length es - size) es) in
      let rest : take start places ≡ take (length es - size) es = sym (take-take start m places (omega arith)) ∙ ap (λ j. take j es) (sym cut) in
      let total : done + len + start ≡ done + m = omega arith in
      let all : more ≡ shut ++ drop (length es - size) es = copied ∙ ap (λ l. shut ++ l) mine in
      let begin = sym long in
      let mine_done : ended_element (Procedure (record { start = done; len = len })) (record { shut = more; pending = nested k sizes (take start places); count = done + len + start }) ≡ closed_over shut (done + m) (drop (length es - size) es ∷ nested k sizes (take (length es - size) es)) =
      λ i. joined_to (Procedure (record { start = begin i; len = few i })) (all i) (total i) (nested k sizes (rest i)) in
      mine_done ∙ ap (closed_over shut (done + m)) (sym (opening_out es))

-- what an opening brace does, and the end of an element
pub ruleset pieces = (open_goes, open_fails, alone, element_goes)
