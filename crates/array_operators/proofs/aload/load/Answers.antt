use Rattle.std.proofs.Common.{◌≡◌, ◌+◌, sym, ◌∙◌}
use Rattle.memory.specs.Dictionaries.{slot_in}
use Rattle.array_operators.specs.Loads.{topped}
use Rattle.array_operators.proofs.Stores.{loaded_step, loaded_none}
use Rattle.array_operators.proofs.aload.load.Goals as goal

pub loop-at-preserved : goal.loop-at-preserved
loop-at-preserved g c =
    let m = c.args.memory.now in
    let s = c.loop-at.operands in
    let one : c.top.new.operands ≡ topped (slot_in m c.loop-at.at) s = let read = c.slot.ensures in let wrote = c.top.ensures in cc in
    loaded_step c.loop-at.at (c.from-start.result + c.from.result) m s c.top.new.operands c.loop-at-test.true one ∙ c.loop-at.invariant

pub returns : goal.returns
returns g c =
    sym (loaded_none c.loop-at.at (c.from-start.result + c.from.result) c.args.memory.now c.loop-at.operands c.loop-at-test.false) ∙ c.loop-at.invariant
