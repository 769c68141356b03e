use Rattle.std.proofs.Common.{◌+◌, ◌*◌, ◌%◌, drop, sym, ap, ◌∙◌, arith}
use Rattle.names.specs.Index.{bucket_after}
use Rattle.names.proofs.Laid.{bucket_more, bucket_all}
use Rattle.names.proofs.bucket.bucket.Goals as goal

pub loop-byte-preserved : goal.loop-byte-preserved
loop-byte-preserved c = (
  ap (λ x. bucket_after ((c.loop-byte.bucket * 31 + x) % 1024) (drop (c.loop-byte.byte-index + 1) c.args.text.now)) c.from.ensures
      ∙ sym (bucket_more c.loop-byte.bucket c.loop-byte.byte-index c.args.text.now (omega arith))
      ∙ c.loop-byte.invariant.0,
  omega arith,
)

pub returns-clause-number : goal.returns-clause-number
returns-clause-number c = sym (bucket_all c.loop-byte.bucket c.loop-byte.byte-index c.args.text.now (omega arith)) ∙ c.loop-byte.invariant.0
