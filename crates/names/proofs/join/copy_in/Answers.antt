use Rattle.std.proofs.Common.{◌+◌, get_or, set, ap, ◌∙◌, arith}
use Rattle.std.proofs.lemmas.List.Edits.{paste_more}
use Rattle.names.proofs.join.copy_in.Goals as goal

pub loop-i-preserved : goal.loop-i-preserved
loop-i-preserved c =
    c.store.ensures.after
    ∙ ap (λ ws. set ws (c.args.at + c.loop-i.i) (get_or c.args.text.now c.loop-i.i 0)) c.loop-i.invariant
    ∙ paste_more c.args.places.now c.args.at c.args.text.now c.loop-i.i 0 (omega arith) (omega arith)
