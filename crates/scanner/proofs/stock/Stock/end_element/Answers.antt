use Rattle.std.proofs.Common.{◌+◌, ◌-◌, arith}
use Rattle.scanner.proofs.Stocks.{element_fails}
use Rattle.scanner.proofs.stock.Stock.end_element.Goals as goal

pub returns-then-tally-ge-MOST_ELEMENTS : goal.returns-then-tally-ge-MOST_ELEMENTS
returns-then-tally-ge-MOST_ELEMENTS c = let t = c.args.tally.now in element_fails _ c.args.self.now.sizes t.depth (t.depth - 1) (omega arith) (omega arith) (t.done + t.pending) _ _ (omega arith)
