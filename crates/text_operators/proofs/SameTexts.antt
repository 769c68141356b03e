-- Two iterators that show what is left: `eq` of them is equality of the two lists.
use Rattle.std.proofs.Common.{◌≡◌, ℕ, suc, Bool, true, false, ◌&&◌, eqb, List, [], ◌∷◌, length, get_or, Some, None, Option, sym, subst, ap, ◌∙◌, arith}
use Rattle.std.proofs.lemmas.Slice.Eq.{bytes_eq-Decides}
use Rattle.std.proofs.lemmas.Bool.{eqb-false}
use Rattle.std.specs.Iterator.{YieldsFirst, YieldsThen, ComparesItemsByEq}
use Rattle.std.specs.List.{AllZip}
use Rattle.std.specs.Option.{MatchOption}
use Rattle.std.specs.Prelude.{IfSome}
use Rattle.std.specs.Str.{bytes_eq}
use Rattle.text_operators.proofs.Sameness.{not_same}

same : (xs ys : List ℕ) → xs ≡ ys → true ≡ bytes_eq xs ys
same xs ys e = sym ((bytes_eq-Decides xs ys).1 e)

none_some : (y : ℕ) (ys : List ℕ) → [] ≡ y ∷ ys → ⊥
none_some y ys e = let size : 0 ≡ suc (length ys) = ap length e in omega arith

module _ {S : Type 0} (rest : S → List ℕ) (r : Bool) where
  abbrev Last : Option ℕ → Option ℕ → Type 0
  Last o p = MatchOption o (MatchOption p (r ≡ true) (λ _. r ≡ false)) (λ x. (r ≡ false) × IfSome p (λ y. eqb x y ≡ false))

  at_last : (o p : Option ℕ) (s t u w : S) → YieldsFirst rest s o u → YieldsFirst rest t p w → Last o p → r ≡ bytes_eq (rest s) (rest t)
  at_last None None s t u w a b h = h ∙ same _ _ (a.0 ∙ sym b.0)
  at_last None (Some y) s t u w a b h = h ∙ not_same _ _ (λ e. none_some y (rest w) (sym a.0 ∙ e ∙ b))
  at_last (Some x) None s t u w a b h = h.0 ∙ not_same _ _ (λ e. none_some x (rest u) (sym b.0 ∙ sym e ∙ a))
  at_last (Some x) (Some y) s t u w a b h = h.0 ∙ not_same _ _ (λ e. eqb-false x y h.1 (ap (λ l. get_or l 0 0) (sym a ∙ e ∙ b)))

  along : (cs bs : List ℕ) (o p : Option ℕ) (s u t w : S) → YieldsThen (YieldsFirst rest) s cs o u → YieldsThen (YieldsFirst rest) t bs p w → AllZip (λ x y. eqb x y ≡ true) cs bs → Last o p → r ≡ bytes_eq (rest s) (rest t)
  along [] [] o p s u t w a b z h = at_last o p s t u w (subst (λ j. YieldsFirst rest j o u) (sym a.1) a.2) (subst (λ j. YieldsFirst rest j p w) (sym b.1) b.2) h
  along [] (y ∷ bs) o p s u t w a b z h = absurd z
  along (x ∷ cs) [] o p s u t w a b z h = absurd z
  along (x ∷ cs) (y ∷ bs) o p s u t w a b z h =
      let j = a.1.0 in
      let k = b.1.0 in
      along cs bs o p j u k w (a.0, a.1.2, a.2) (b.0, b.1.2, b.2) z.1 h
      ∙ sym (ap (λ q. q && bytes_eq (rest j) (rest k)) z.0)
      ∙ ap (λ l. bytes_eq l (y ∷ rest k)) (sym a.1.1)
      ∙ ap (bytes_eq (rest s)) (sym b.1.1)

pub same_told : {S : Type 0} (rest : S → List ℕ) (s other : S) (r : Bool) → ComparesItemsByEq (YieldsFirst rest) (λ (x y : S). y ≡ x) (YieldsFirst rest) s other eqb r → r ≡ bytes_eq (rest s) (rest other)
same_told rest s other r d = along rest r d.1 d.2 d.3 d.4 s d.5 d.0 d.6 d.8 d.9 d.10 d.11 ∙ ap (λ t. bytes_eq (rest s) (rest t)) d.7
