use Rattle.std.proofs.Common.{◌≡◌, ℕ, List, [], Option, Some, None, Bor, length, refl, ap, ◌∙◌, arith}
use Rattle.std.specs.Prelude.{unwrap_or}
use Rattle.std.specs.Option.{option_copied}
use Rattle.array_operators.specs.Lengths.{name_length}
use Rattle.array_operators.proofs.NameLengths.{short}
use Rattle.array_operators.proofs.length.name_length.Goals as goal

of_copied : (r : Option (Bor (List ℕ))) (d : Bor (List ℕ)) → d.now ≡ [] → (unwrap_or r d).now ≡ unwrap_or (option_copied r) []
of_copied None d none = none
of_copied (Some text) d none = refl

pub overflow_cast-result : goal.overflow_cast-result
overflow_cast-result c =
    let told : length c.unwrap_or.result.now ≡ name_length c.args.number c.args.names.now =
    ap (λ t. length t.now) c.unwrap_or.ensures ∙ ap length (of_copied c.text_of.result _ refl) ∙ ap (λ o. length (unwrap_or o [])) c.text_of.ensures.name in
    let most = short c.args.names.now c.args.number c.text_of.ensures.fits in
    omega arith
