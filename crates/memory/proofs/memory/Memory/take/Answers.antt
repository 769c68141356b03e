use Rattle.std.proofs.Common.{◌≡◌, ◌+◌, ◌-◌, ◌<◌, length, ap, ◌∙◌, arith}
use Rattle.std.proofs.lemmas.Bool.{leb-true}
use Rattle.objects.specs.declared.fault.Fault.TheVariants.{VmError}
use Rattle.keepers.proofs.Outcomes.{accepted_after}
use Rattle.memory.specs.Memories.{with_cell, emptied}
use Rattle.memory.proofs.Filling.{emptied_more, ends}
use Rattle.memory.proofs.Taken.{taken_above}
use Rattle.memory.proofs.memory.Memory.take.Goals as goal

pub loop-at-preserved : goal.loop-at-preserved
loop-at-preserved g c =
    let p = g.C.Cell.part in
    let m = c.args.self.now in
    let mid = c.loop-at.self in
    let start = c.top-start.result in
    let at = c.loop-at.at in
    let low = c.loop-at.auto.at in
    let end = ends p c.args.count c.in_ok-end.end m c.in_ok-end.ensures in
    let last = end.is in
    let fit = leb-true _ _ end.fits in
    let below = c.loop-at-test.true in
    let place : at ≡ start + (at - start) = omega arith in
    let inside : start + (at - start) < length (p.cells m.kept) = omega arith in
    let more : at - start + 1 ≡ at + 1 - start = omega arith in
    c.set.ensures
    ∙ ap (λ x. with_cell p c.from.result x mid) (g.met.C.Cell.empty _ c.default.ensures)
    ∙ ap (λ n. with_cell p n p.empty mid) (c.from.ensures ∙ place)
    ∙ ap (with_cell p (start + (at - start)) p.empty) c.loop-at.invariant
    ∙ emptied_more p g.met.C.Cell.laws m start (at - start) inside
    ∙ ap (λ n. emptied p start n m) more

pub returns-clause-below : goal.returns-clause-below
returns-clause-below g c =
    let p = g.C.Cell.part in
    let m = c.args.self.now in
    let start = c.top-start.result in
    let n = c.args.count in
    let end = ends p n c.in_ok-end.end m c.in_ok-end.ensures in
    let last = end.is in
    let first = c.top-start.ensures in
    let low = c.loop-at.auto.at in
    let high = c.loop-at.auto.at-end in
    let past = c.loop-at-test.false in
    let all : c.loop-at.at - start ≡ n = omega arith in
    let new = p.with_top (p.top m + n) (emptied p (p.top m) n m) in
    let state = c.set_top.ensures
    ∙ ap (p.with_top c.in_ok-end.end) c.loop-at.invariant
    ∙ ap (λ k. p.with_top c.in_ok-end.end (emptied p start k m)) all
    ∙ ap (λ k. p.with_top k (emptied p start n m)) last
    ∙ ap (λ k. p.with_top (p.top m + n) (emptied p k n m)) first
    ∙ accepted_after _ new VmError m end.fits in
    taken_above p g.met.C.Cell.laws n m _ state
