-- A level opened, any moves made, and the way back to it.
use Rattle.std.specs.Prelude.{◌≡◌, ℕ, ◌<◌, ◌≤◌, cond, List, [], ◌∷◌, length, Ok, Err, Result, ◌==◌, nat_lt, slice_index}
use Rattle.objects.specs.Outcomes.{after}
use Rattle.objects.specs.declared.fault.Fault.{Fault}
use Rattle.objects.specs.declared.fault.Fault.TheVariants.{LimitCheck}
use Rattle.keepers.specs.Kept.{Kept, put_slot, put_byte, open_level, back_to}
use Rattle.keepers.specs.declared.excursion.Move.{Move}
use Rattle.keepers.specs.declared.excursion.Move.TheVariants.{PutSlot, PutByte, Open, Back}

-- one move of an excursion from a level: a way back to that level or below is not taken
abbrev pub moved : ℕ → Move → Kept → Kept
moved from (PutSlot at o) k = after (put_slot at o k) k
moved from (PutByte at b) k = after (put_byte at b k) k
moved from Open k = after (open_level k) k
moved from (Back to) k = cond (nat_lt from to) (after (back_to to k) k) k

unfoldable pub played : ℕ → List Move → Kept → Kept
played from [] k = k
played from (m ∷ ms) k = played from ms (moved from m k)

-- what byte i is after the moves: as last put, or as it was
unfoldable pub last_put : ℕ → List Move → ℕ → ℕ
last_put i [] b = b
last_put i (PutSlot at o ∷ ms) b = last_put i ms b
last_put i (PutByte at c ∷ ms) b = last_put i ms (cond (at == i) c b)
last_put i (Open ∷ ms) b = last_put i ms b
last_put i (Back to ∷ ms) b = last_put i ms b

-- all is as right before the level was opened, but for the bytes, which are as last put
pub record AsBefore (moves : List Move) (before after : Kept) : Type 0 where
  pub room : length before.levels < before.limit
  pub slots : after.slots ≡ before.slots
  pub levels : after.levels ≡ before.levels
  pub limit : after.limit ≡ before.limit
  pub long : length after.bytes ≡ length before.bytes
  pub bytes : (i : ℕ) → i < length before.bytes → slice_index after.bytes i ≡ last_put i moves (slice_index before.bytes i)

-- no level could be opened, and nothing changed
pub record Refused (fault : Fault) (before after : Kept) : Type 0 where
  pub full : before.limit ≤ length before.levels
  pub number : fault ≡ LimitCheck
  pub same : after ≡ before

abbrev pub ComesBack : List Move → Kept → Kept → Result (Unit {0}) Fault → Type 0
ComesBack moves before after (Ok done) = AsBefore moves before after
ComesBack moves before after (Err fault) = Refused fault before after
