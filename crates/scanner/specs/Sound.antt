-- What whoever takes memory for a token may rely on: it says how much it needs, and its places lie inside that.
use Rattle.std.specs.Prelude.{◌≡◌, ℕ, ◌+◌, ◌≤◌, List, length, Some, None, Ok, Err, Option, Result}
use Rattle.std.specs.List.{AllByRecursion}
use Rattle.objects.specs.declared.fault.Fault.{Fault}
use Rattle.scanner.specs.Tokens.{Scanned}
use Rattle.scanner.specs.declared.element.Element.{Element}
use Rattle.scanner.specs.declared.element.Element.TheVariants.{Object, String, Procedure}
use Rattle.scanner.specs.declared.token.Token.{Token}

-- a string lies inside so many bytes, and a procedure inside so many slots
abbrev pub Inside : ℕ → ℕ → Element → Type 0
Inside slots bytes (Object o) = Unit {0}
Inside slots bytes (String s) = s.start + s.len ≤ bytes
Inside slots bytes (Procedure s) = s.start + s.len ≤ slots

pub record Whole (t : Token) (slots : List Element) (bytes : List ℕ) : Type 0 where
  pub slots_told : t.slots ≡ length slots
  pub bytes_told : t.bytes ≡ length bytes
  pub few_slots : length slots ≤ 512
  pub few_bytes : length bytes ≤ 1024
  pub itself : Inside (length slots) (length bytes) t.element
  pub each : AllByRecursion (Inside (length slots) (length bytes)) slots

abbrev pub SoundAnswer : Result (Option Token) Fault → List Element → List ℕ → Type 0
SoundAnswer (Ok (Some t)) slots bytes = Whole t slots bytes
SoundAnswer (Ok None) slots bytes = Unit {0}
SoundAnswer (Err f) slots bytes = Unit {0}

abbrev pub Sound : Scanned → Type 0
Sound s = SoundAnswer s.answer s.slots s.bytes
