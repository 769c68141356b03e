use Rattle.std.proofs.Common.{true, false, sym, ap, ◌∙◌, rules}
use Rattle.std.proofs.lemmas.List.{take_rest}
use Rattle.objects.specs.Decimals.{number_read, with_sign}
use Rattle.objects.proofs.Integers.{read_minus, read_plus, read_plain}
use Rattle.objects.proofs.integer.read_integer.Goals as goal

pub returns-in-45 : goal.returns-in-45
returns-in-45 c =
    c.signed.ensures ∙ ap (λ ds. with_sign true (number_read ds)) (take_rest c.args.text.now 1)
    ∙ sym (read_minus c.args.text.now (search rules) (search rules))

pub returns-in-43 : goal.returns-in-43
returns-in-43 c =
    c.signed-in-43.ensures ∙ ap (λ ds. with_sign false (number_read ds)) (take_rest c.args.text.now 1)
    ∙ sym (read_plus c.args.text.now (search rules) (search rules))

pub returns-in_default : goal.returns-in_default
returns-in_default c = c.signed-in_default.ensures ∙ sym (read_plain c.args.text.now (search rules) (search rules))
