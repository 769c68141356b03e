use Rattle.std.proofs.Common.{◌≡◌, ap, ◌∙◌, rules}
use Rattle.objects.specs.Decimals.{integer_text, integer_read}
use Rattle.objects.proofs.Integers.{text_read}
use Rattle.objects.proofs.decimal_text.DecimalText.of.Goals as goal

pub returns-clause-back : goal.returns-clause-back
returns-clause-back c =
    let e : c.push_str.new.self.bytes ≡ integer_text c.args.value = search rules in
    ap integer_read e ∙ text_read c.args.value c.ranges.value
