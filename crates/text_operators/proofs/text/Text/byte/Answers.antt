use Rattle.std.proofs.Common.{ap, ◌∙◌}
use Rattle.std.proofs.lemmas.Option.{unwrap_or-slice_get}
use Rattle.std.specs.Prelude.{unwrap_or}
use Rattle.text_operators.specs.Texts.{bytes_of}
use Rattle.text_operators.proofs.text.Text.byte.Goals as goal

pub returns : goal.returns
returns g c = c.unwrap_or.ensures ∙ ap (λ o. unwrap_or o 0) c.get.ensures.byte ∙ unwrap_or-slice_get (bytes_of c.args.self c.args.memory.now) c.args.i 0
