use Rattle.std.proofs.Common.{sym, ap, ◌∙◌}
use Rattle.std.proofs.lemmas.Bool.{eqb-true, eq-eqb}
use Rattle.objects.specs.Operators.{number}
use Rattle.objects.proofs.Operators.{same_from_number}
use Rattle.objects.proofs.operator.OperatorPartialEq.eq.Goals as goal

pub returns : goal.returns
returns c =
    let mine = c.number.ensures in
    let its = c.number-2.ensures in
    record {
      answer = cc;
      same = (λ t. same_from_number _ _ (sym mine ∙ eqb-true _ _ t ∙ its), λ e. eq-eqb _ _ (mine ∙ ap number e ∙ sym its));
    }
