-- The bytes of a string, one by one.
use Rattle.std.proofs.Common.{◌≡◌, ℕ, zero, suc, ◌+◌, ◌<◌, length, get_or, refl, ap, ◌∙◌, arith}
use Rattle.memory.specs.Memories.{InUse}
use Rattle.operators.specs.Texts.{byte_in, bytes_from}

pub bytes_length : (at n : ℕ) (m : InUse) → length (bytes_from at n m) ≡ n
unfolding bytes_from
bytes_length at zero m = refl
bytes_length at (suc n) m = ap suc (bytes_length (at + 1) n m)

pub byte_of : (at n i : ℕ) (m : InUse) → i < n → get_or (bytes_from at n m) i 0 ≡ byte_in m (at + i)
unfolding bytes_from
byte_of at zero i m h = absurd (omega arith)
byte_of at (suc n) zero m h = ap (byte_in m) (omega arith)
byte_of at (suc n) (suc i) m h = byte_of (at + 1) n i m (omega arith) ∙ ap (byte_in m) (omega arith)
