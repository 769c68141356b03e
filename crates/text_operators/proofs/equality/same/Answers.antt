use Rattle.std.proofs.Common.{◌≡◌, Decides, sym, ap, ◌∙◌}
use Rattle.std.proofs.lemmas.Bool.Decides.{same_from_decides, Decides-at}
use Rattle.objects.proofs.Same.{value_decides}
use Rattle.text_operators.specs.Equality.{same_value}
use Rattle.text_operators.specs.Texts.{bytes_of_any}
use Rattle.text_operators.proofs.Sameness.{same_value_decides, by_value_alone}
use Rattle.text_operators.proofs.equality.same.Goals as goal

pub returns-in-None-None : goal.returns-in-None-None
returns-in-None-None g c =
    let m = c.args.memory.now in
    let told : Decides c.eq.result (c.args.a ≡ c.args.b) = Decides-at _ _ c.eq.ensures (value_decides c.args.a c.args.b) in
    let value : c.eq.result ≡ same_value c.args.a c.args.b = same_from_decides _ _ told (same_value_decides c.args.a c.args.b) in
    by_value_alone _ _ _ _ (sym (c.letters.ensures m) ∙ ap (λ o. bytes_of_any o m) c.in-None-None.is-0) (sym (c.letters-2.ensures m) ∙ ap (λ o. bytes_of_any o m) c.in-None-None.is-1) value
