use Rattle.std.proofs.Common.{◌≡◌, ◌+◌, ◌-◌, ◌*◌, ◌^◌, ◌<◌, min, true, false, length, get_or, drop, sym, ap, ◌∙◌, arith, rules}
use Rattle.std.specs.Char.{is_ascii_digit}
use Rattle.std.proofs.lemmas.Bool.Decides.{nat_tests}
use Rattle.objects.proofs.Integers.{counted, digit_more, no_digit, digits_done, counted_all}
use Rattle.objects.proofs.integer.number.Goals as goal

pub loop-digit-preserved : goal.loop-digit-preserved
loop-digit-preserved c =
    let d = get_or c.args.digits.now c.loop-digit.digit-index 0 in
    let digit : is_ascii_digit d ≡ true = search rules in
    let e : c.saturating_add-total.result ≡ min (c.loop-digit.total * 10 + (d - 48)) (2 ^ 32 - 1) = omega arith in
    ap (λ n. counted n (drop (c.loop-digit.digit-index + 1) c.args.digits.now)) e
    ∙ sym (digit_more c.loop-digit.total c.loop-digit.digit-index c.args.digits.now (omega arith) digit)
    ∙ c.loop-digit.invariant

pub returns-then-not-is_ascii_digit : goal.returns-then-not-is_ascii_digit
returns-then-not-is_ascii_digit c =
    let some : 0 < length c.args.digits.now = grind (arith, nat_tests) in
    let other : is_ascii_digit (get_or c.args.digits.now c.loop-digit.digit-index 0) ≡ false = search rules in
    sym (no_digit c.loop-digit.total c.loop-digit.digit-index c.args.digits.now (omega arith) other) ∙ c.loop-digit.invariant ∙ counted_all _ some

pub returns : goal.returns
returns c =
    let some : 0 < length c.args.digits.now = grind (arith, nat_tests) in
    sym (digits_done c.loop-digit.total c.loop-digit.digit-index c.args.digits.now (omega arith)) ∙ c.loop-digit.invariant ∙ counted_all _ some
