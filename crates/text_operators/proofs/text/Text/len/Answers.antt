use Rattle.std.proofs.Common.{length, sym, ap, ◌∙◌}
use Rattle.text_operators.specs.Texts.{bytes_of}
use Rattle.text_operators.proofs.Bytes.{bytes_length}
use Rattle.text_operators.proofs.text.Text.len.Goals as goal

pub returns-in-String : goal.returns-in-String
returns-in-String c = λ m. c.from.ensures ∙ sym (bytes_length _ _ m) ∙ ap (λ t. length (bytes_of t m)) (sym c.in-String.is)
