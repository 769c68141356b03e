use Rattle.keepers.proofs.Excursions.{comes_back}
use Rattle.keepers.proofs.excursion.there_and_back.Goals as goal

pub returns : goal.returns
returns g c =
    comes_back c.args.moves.now (g.K.Keeper.kept c.args.keeper.now) _ _ (g.K.Keeper.kept c.back_to.new.self) c.open_levels-level.result c.back_to.result
    c.open_levels-level.ensures c.in_ok-open_level.ensures.answer c.in_ok-open_level.ensures.state c.play.ensures c.back_to.ensures.answer c.back_to.ensures.state
