use Rattle.std.proofs.Common.{◌≤◌, length, arith}
use Rattle.std.proofs.lemmas.Bool.Decides.{nat_tests}
use Rattle.stacks.proofs.Fronts.{length_front, drop_front}
use Rattle.stacks.proofs.operands.Operands.open_stopped.Goals as goal

pub returns-then-self-gt0 : goal.returns-then-self-gt0
returns-then-self-gt0 c =
    let q = c.self.inside in
    let within : q.counts.operands ≤ length q.objects = omega (arith, c.self.invariant) in
    let size = length_front q.counts.operands q.objects within in
    let rest = drop_front 1 q.counts.operands q.objects within in
    grind (arith, nat_tests)
