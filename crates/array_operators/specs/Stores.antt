-- Operands stored in slots.
use Rattle.std.specs.Prelude.{ℕ, zero, suc, ◌+◌, List, Option}
use Rattle.std.specs.Prelude.{unwrap_or}
use Rattle.std.specs.List.{slice_get}
use Rattle.objects.specs.declared.object.Object.{Object}
use Rattle.keepers.specs.Kept.{blank}
use Rattle.memory.specs.Memories.{InUse, with_slot}

abbrev pub or_blank : Option Object → Object
or_blank o = unwrap_or o blank

-- the n operands below so many go into the slots from a place on, the lowest of them first
unfoldable pub stored : ℕ → ℕ → ℕ → List Object → InUse → InUse
stored above at zero os m = m
stored above at (suc n) os m = stored above (at + 1) n os (with_slot at (or_blank (slice_get os (above + n))) m)
