use Rattle.std.proofs.Common.{◌-◌, [], arith}
use Rattle.scanner.proofs.Stocks.{end_finished, end_unfinished}
use Rattle.scanner.proofs.stock.Stock.end.Goals as goal

pub returns-then-tally-eq0 : goal.returns-then-tally-eq0
returns-then-tally-eq0 c = end_finished [] 0 c.args.self.now.sizes _ c.args.tally.now.depth (omega arith) (omega arith)

pub returns-else-tally-eq0 : goal.returns-else-tally-eq0
returns-else-tally-eq0 c = end_unfinished [] c.args.self.now.sizes c.args.tally.now.depth (c.args.tally.now.depth - 1) (omega arith) (omega arith) 0 _
