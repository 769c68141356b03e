use Rattle.std.proofs.Common.{◌≡◌, drop}
use Rattle.keepers.specs.Excursions.{played}
use Rattle.keepers.proofs.excursion.play.Given as goal

-- the moves that are left give from here what all of them give from the start
abbrev pub invariant-loop-step : goal.invariant-loop-step
invariant-loop-step g l =
    played l.from (drop l.step-index l.moves) (g.K.Keeper.kept l.keeper) ≡ played l.from l.moves (g.K.Keeper.kept l.initial.keeper)
