use Rattle.std.proofs.Common.{◌≡◌, ℕ, zero, suc, ◌+◌, List, [], ◌∷◌, drop, Some, sym, ap, ◌∙◌, arith}
use Rattle.std.proofs.lemmas.Option.{same_Some, none-some}
use Rattle.std.specs.List.{slice_get}
use Rattle.text_operators.specs.Texts.{bytes_of}
use Rattle.text_operators.proofs.text_bytes.TextBytesIterator.next.Goals as goal

first_left : (xs : List ℕ) (i x : ℕ) → slice_get xs i ≡ Some x → drop i xs ≡ x ∷ drop (i + 1) xs
first_left [] i x e = absurd (none-some x e)
first_left (y ∷ xs) zero x e = ap (λ z. z ∷ xs) (same_Some y x e)
first_left (y ∷ xs) (suc i) x e = let more : suc (i + 1) ≡ suc i + 1 = omega arith in first_left xs i x e ∙ ap (λ k. x ∷ drop k (y ∷ xs)) more

pub returns-clause-steps : goal.returns-clause-steps
returns-clause-steps g c =
    let s = c.args.self.now in
    first_left (bytes_of s.text s.memory.now) s.at c.in_ok-byte.byte (sym c.in_ok-byte.ensures.byte)
