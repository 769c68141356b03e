use Rattle.std.proofs.Common.{ap, ◌∙◌}
use Rattle.std.specs.Str.{bytes_eq}
use Rattle.text_operators.specs.Texts.{bytes_of, rest}
use Rattle.text_operators.proofs.SameTexts.{same_told}
use Rattle.text_operators.proofs.same_text.same_text.Goals as goal

pub returns-then-len : goal.returns-then-len
returns-then-len g c =
    let m = c.args.memory.now in
    same_told rest c.bytes.result c.bytes-then-len.result c.eq.result c.eq.ensures.ran
    ∙ ap (λ x. bytes_eq x (rest c.bytes-then-len.result)) c.bytes.ensures
    ∙ ap (bytes_eq (bytes_of c.args.a m)) c.bytes-then-len.ensures
