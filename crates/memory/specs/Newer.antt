-- What is newer than a save: what lies in memory taken since, and the save itself and those after it.
use Rattle.std.specs.Prelude.{◌≡◌, ℕ, ◌<◌, Bool, true, false, ◌&&◌, List, length, nat_le, nat_lt, slice_index_or}
use Rattle.std.specs.List.{list_any}
use Rattle.objects.specs.declared.object.Object.{Object}
use Rattle.objects.specs.declared.object.Span.{Span}
use Rattle.objects.specs.declared.object.Value.{Value}
use Rattle.objects.specs.declared.object.Value.TheVariants.{Null, Integer, Boolean, Mark, Name, Operator, Array, String, Dictionary, Save, Header}
use Rattle.keepers.specs.Kept.{blank}
use Rattle.memory.specs.declared.saves.Saved.{Saved}

-- at least one place, from a top on
abbrev pub from_top : ℕ → Span → Bool
from_top top s = nat_lt 0 s.len && nat_le top s.start

abbrev pub newer : Saved → Value → Bool
newer s Null = false
newer s (Integer n) = false
newer s (Boolean b) = false
newer s Mark = false
newer s (Name n) = false
newer s (Operator o) = false
newer s (Array a) = from_top s.slot_top a
newer s (String a) = from_top s.byte_top a
newer s (Dictionary d) = nat_le s.slot_top d
newer s (Save n) = nat_le s.number n
newer s (Header h) = false

abbrev pub any_newer : Saved → List Object → Bool
any_newer s os = list_any (λ o. newer s o.value) os

-- of many objects: yes where one of them is newer, no where none is
pub record AnyNewer (s : Saved) (os : List Object) (r : Bool) : Type 0 where
  pub yes : r ≡ true → (i : ℕ) × ((i < length os) × (newer s (slice_index_or os i blank).value ≡ true))
  pub no : r ≡ false → (i : ℕ) → i < length os → newer s (slice_index_or os i blank).value ≡ false
