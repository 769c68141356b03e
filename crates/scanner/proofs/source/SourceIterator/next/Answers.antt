use Rattle.std.proofs.Common.{◌≡◌, ℕ, List, [], ◌∷◌, length, drop, Some, ap, ◌∙◌, arith}
use Rattle.std.proofs.lemmas.List.{drop-drop}
use Rattle.scanner.specs.Sources.{first, to_come}
use Rattle.scanner.proofs.source.SourceIterator.next.Goals as goal

begins : (b : ℕ) (bs : List ℕ) → Some b ≡ first bs → bs ≡ b ∷ drop 1 bs
begins b [] e = cc
begins b (c ∷ bs) e = cc

pub returns-clause-steps : goal.returns-clause-steps
returns-clause-steps c =
    let s = c.args.self.now in
    let is = begins c.in_ok-byte.byte (to_come s) c.in_ok-byte.ensures ∙ ap (λ l. c.in_ok-byte.byte ∷ l) (drop-drop 1 s.place s.text.now) in
    (is, omega (arith, ap length is))
