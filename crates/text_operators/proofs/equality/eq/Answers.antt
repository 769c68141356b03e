use Rattle.std.proofs.Common.{rules}
use Rattle.text_operators.proofs.Sameness.{sameness}
use Rattle.text_operators.proofs.equality.eq.Goals as goal

pub returns : goal.returns
returns g c = search (rules, sameness)
