use Rattle.std.proofs.Common.{◌-◌, arith}
use Rattle.stacks.proofs.Fronts.{rolled_front}
use Rattle.stacks.proofs.Turns.{rolls}
use Rattle.stacks.proofs.operands.Operands.roll.Goals as goal

pub returns-then-n-depth-clause-state : goal.returns-then-n-depth-clause-state
returns-then-n-depth-clause-state c =
    let q = c.self.inside in
    let depth = q.counts.operands in
    rw (← c.self.view_is) (rolled_front q.objects c.rotate_right.new.self depth c.args.n (depth - (depth - c.args.n)) c.args.by q.counts.stopped (omega arith) (omega arith) (omega (arith, c.self.invariant)) (omega arith) c.rotate_right.ensures.after)

pub returns-then-n-depth-clause-law : goal.returns-then-n-depth-clause-law
returns-then-n-depth-clause-law c = rolls c.args.n c.args.by c.args.self.now _ (returns-then-n-depth-clause-state c)
