use Rattle.std.proofs.Common.{◌+◌, drop, sym, ap, ◌∙◌}
use Rattle.keepers.specs.Excursions.{played}
use Rattle.keepers.proofs.Excursions.{played_more, played_all}
use Rattle.keepers.proofs.excursion.play.Goals as goal

pub loop-step-preserved : goal.loop-step-preserved
loop-step-preserved g c =
    let from = c.args.from in
    let ms = c.args.moves.now in
    let i = c.loop-step.step-index in
    ap (played from (drop (i + 1) ms)) c.make_move.ensures
    ∙ played_more from ms i _ (g.K.Keeper.kept c.loop-step.keeper) c.loop-step-test.true ∙ c.loop-step.invariant

pub returns : goal.returns
returns g c =
    sym (played_all c.args.from c.args.moves.now c.loop-step.step-index (g.K.Keeper.kept c.loop-step.keeper) c.loop-step-test.false) ∙ c.loop-step.invariant
