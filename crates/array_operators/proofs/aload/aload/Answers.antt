use Rattle.std.proofs.Common.{Ok, subst, ap, ◌∙◌, arith}
use Rattle.operators.specs.States.{State, with_operands}
use Rattle.array_operators.proofs.Loads.{Loaded, loads}
use Rattle.array_operators.proofs.aload.aload.Goals as goal

pub returns-clause-state : goal.returns-clause-state
returns-clause-state g c =
    let size = c.from.ensures in
    let room = c.room.ensures.value in
    let m = c.machine.inside in
    let s : State = record { memory = m.memory; names = m.names; operands = m.operands; dictionaries = m.dictionaries; frames = m.frames; output = m.output } in
    let t = c.top.new.operands in
    (subst (λ (x : State). Loaded x (with_operands t s)) c.machine.view_is
    (loads s c.in_ok-object.object c.branch.inside.0 c.discard.new.self c.load.new.operands t
    c.in_ok-object.ensures (ap Ok c.branch.view_is ∙ c.in_ok-span.ensures) (omega arith) c.room.ensures.within c.discard.ensures c.load.ensures c.top.ensures)).state
