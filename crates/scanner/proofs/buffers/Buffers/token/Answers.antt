use Rattle.std.proofs.Common.{refl, ◌∙◌, arith, rules}
use Rattle.scanner.specs.Stocks.{levels}
use Rattle.scanner.proofs.Turns.{goes_on, fails, breaks_off}
use Rattle.scanner.proofs.buffers.Buffers.token.Goals as goal

pub loop-element-init : goal.loop-element-init
unfolding levels
loop-element-init c = (refl, refl, refl)

pub loop-element-preserved : goal.loop-element-preserved
loop-element-preserved c =
    let told = c.in_ok-element.ensures in
    let a = c.advance.new in
    (goes_on _ _ _ _ _ c.loop-element.invariant.0 a.self a.counts _ _ _ told.turned _ c.in_default.is, told.counted, told.whole ∙ c.loop-element.invariant.2)

pub returns-in_err-element-clause-reading : goal.returns-in_err-element-clause-reading
returns-in_err-element-clause-reading c =
    let a = c.advance.new in
    fails _ _ _ _ _ c.loop-element.invariant.0 a.self a.counts _ _ _ c.in_err-element.ensures.turned _ c.from_residual.ensures.1

pub returns-in-Break-clause-reading : goal.returns-in-Break-clause-reading
returns-in-Break-clause-reading c =
    let told = c.in_ok-element.ensures in
    let a = c.advance.new in
    breaks_off _ _ _ _ _ c.loop-element.invariant.0 a.self a.counts _ _ _ told.turned _ _ _ c.in-Break.is told.counted (omega arith) c.map.ensures.cases (λ e t made. search rules)
