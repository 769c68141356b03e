use Rattle.std.proofs.Common.{◌≡◌, ◌+◌, ◌-◌, ◌++◌, take, set, sym, ap, ◌∙◌, arith}
use Rattle.std.proofs.lemmas.List.{length-set}
use Rattle.operators.specs.Texts.{byte_in, bytes_from}
use Rattle.operators.proofs.Texts.{bytes_more, bytes_none}
use Rattle.operators.proofs.text.gathered.Goals as goal

pub loop-i-preserved : goal.loop-i-preserved
loop-i-preserved g c =
    let m = c.args.memory.now in
    let xs = c.loop-i.buffer in
    let at = c.args.string.start in
    let n = c.args.string.len in
    let i = c.loop-i.i in
    let end = c.from-i-end.ensures in
    let size = c.loop-i.invariant.1 in
    let short = c.requires in
    let step : set xs i c.byte.result ≡ set xs i (byte_in m (at + i)) = let from = c.from.ensures in let read = c.byte.ensures in cc in (
      ap (λ ys. take (i + 1) ys ++ bytes_from (at + (i + 1)) (n - (i + 1)) m) step ∙ bytes_more at n i m xs (omega arith) (omega arith) ∙ c.loop-i.invariant.0,
      length-set xs i c.byte.result ∙ size,
    )

pub returns : goal.returns
returns g c =
    let i = c.loop-i.i in
    let end : i ≡ c.args.string.len = let most = c.loop-i.auto.i-end in let last = c.from-i-end.ensures in omega arith in
    sym (bytes_none (c.args.string.start + i) c.args.string.len i c.args.memory.now c.loop-i.buffer end) ∙ c.loop-i.invariant.0
