use Rattle.std.proofs.Common.{arith}
use Rattle.std.proofs.lemmas.List.Edits.{paste_more}
use Rattle.keepers.specs.Kept.{blank}
use Rattle.keepers.proofs.copy.CopyKeeper.copy_slots.Goals as goal

pub loop-i-preserved : goal.loop-i-preserved
loop-i-preserved c =
    let inv = c.loop-i.invariant in
    let more = paste_more c.args.self.now.copies.now c.args.from c.args.self.now.slots.now c.loop-i.i blank (omega arith) (omega arith) in
    (inv.0, inv.1, inv.2, cc)
