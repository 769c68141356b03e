use Rattle.std.proofs.Common.{◌++◌, ap, ◌∙◌}
use Rattle.text_operators.proofs.Output.{more_out}
use Rattle.text_operators.proofs.writing.print.Goals as goal

pub returns-clause-grows : goal.returns-clause-grows
returns-clause-grows g c =
    let out = more_out _ c.machine.inside.output c.write_text.new.output c.write_text.ensures.state in
    record { more = out.0; output = out.1 ∙ ap (λ s. s.output ++ out.0) c.machine.view_is }
