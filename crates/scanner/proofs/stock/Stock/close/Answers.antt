use Rattle.std.proofs.Common.{◌≡◌, ◌-◌, get_or, take, refl, ap, ◌∙◌, arith}
use Rattle.std.proofs.lemmas.List.{length-take-le}
use Rattle.scanner.proofs.Stocks.{stray, close_goes}
use Rattle.scanner.proofs.stock.Stock.close.Goals as goal

pub returns-then-tally-eq0 : goal.returns-then-tally-eq0
returns-then-tally-eq0 c = stray _ _ c.args.self.now.sizes _ c.args.tally.now.depth (omega arith) (omega arith)

pub returns : goal.returns
returns c =
    let t = c.args.tally.now in
    let start = c.saturating_sub-start.result in
    let innermost : c.from.result ≡ t.depth - 1 = c.from.ensures in
    let at : c.from-2.result ≡ t.done = c.from-2.ensures in
    let from : c.from-3.result ≡ start = c.from-3.ensures in
    let len : c.from-4.result ≡ t.pending - start = c.from-4.ensures in
    let begins : start ≡ t.pending - get_or c.args.self.now.sizes (t.depth - 1) 0 = c.saturating_sub-start.ensures ∙ ap (λ n. t.pending - get_or c.args.self.now.sizes n 0) innermost in
    c.end_element.ensures
    ∙ close_goes (take t.done c.args.self.now.done) c.args.self.now.sizes t.depth (t.depth - 1) (omega arith) (omega arith) t.done t.pending start (t.pending - start) c.args.self.now.pending _ (omega arith) (length-take-le t.done c.args.self.now.done (omega arith)) begins refl (grind (arith, c.copy_over.ensures, at, from, len))
