use Rattle.std.proofs.Common.{◌≡◌, ◌<◌, drop}
use Rattle.names.specs.Index.{bucket_after, bucket_of}
use Rattle.names.proofs.bucket.bucket.Given as goal

-- what is left of the bytes gives the bucket that all of them give
abbrev pub invariant-loop-byte : goal.invariant-loop-byte
invariant-loop-byte l = (bucket_after l.bucket (drop l.byte-index l.text) ≡ bucket_of l.text) × (l.bucket < 1024)
