use Rattle.std.proofs.Common.{◌≡◌, drop}
use Rattle.objects.proofs.Integers.{counted}
use Rattle.objects.proofs.integer.number.Given as goal

-- what is left of the digits gives what all of them give
abbrev pub invariant-loop-digit : goal.invariant-loop-digit
invariant-loop-digit l = counted l.total (drop l.digit-index l.digits) ≡ counted 0 l.digits
