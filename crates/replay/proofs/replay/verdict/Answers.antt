use Rattle.std.proofs.Common.{◌≡◌, Decides, sym, ap, ◌∙◌}
use Rattle.std.proofs.lemmas.Bool.{false≢true}
use Rattle.std.proofs.lemmas.Bool.Decides.{Decides-at}
use Rattle.objects.proofs.Same.{both, object_decides}
use Rattle.replay.specs.contracts.scene.ScenePartialEq.TheImpl as of_scene
use Rattle.replay.specs.declared.scene.Scene.{Scene}
use Rattle.replay.proofs.replay.verdict.Goals as goal

-- == decides whether two scenes are the same
same : (a b : Scene) → Decides (of_scene.ghosts.eq a b) (a ≡ b)
same a b = both a b _ _ (λ p q i. record { phase = p i; modifier = q i }) (ap (λ x. x.phase)) (ap (λ x. x.modifier)) (object_decides a.phase b.phase) (object_decides a.modifier b.modifier)

pub returns-then-eq-clause-different : goal.returns-then-eq-clause-different
returns-then-eq-clause-different c differ =
    let decided : Decides c.eq.result (c.args.found ≡ c.args.saved) = Decides-at _ _ c.eq.ensures (same c.args.found c.args.saved) in
    absurd (differ (decided.0 c.if-eq.true))

pub returns-else-eq-clause-same : goal.returns-else-eq-clause-same
returns-else-eq-clause-same c equal =
    let decided : Decides c.eq.result (c.args.found ≡ c.args.saved) = Decides-at _ _ c.eq.ensures (same c.args.found c.args.saved) in
    absurd (false≢true (sym c.if-eq.false ∙ decided.1 equal))
