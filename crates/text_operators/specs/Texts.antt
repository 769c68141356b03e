-- What a text stands for: its bytes, which for a string lie in memory.
use Rattle.std.specs.Prelude.{ℕ, List, drop, Some, None, Option}
use Rattle.objects.specs.Decimals.{integer_text}
use Rattle.memory.specs.Memories.{InUse}
use Rattle.operators.specs.Texts.{text_of}
use Rattle.text_operators.specs.declared.text_bytes.TextBytes.{TextBytes}
use Rattle.text_operators.specs.declared.text.Text.{Text}
use Rattle.text_operators.specs.declared.text.Text.TheVariants as text

abbrev pub bytes_of : Text → InUse → List ℕ
bytes_of (text.Plain bytes) m = bytes.now
bytes_of (text.Integer z) m = integer_text z
bytes_of (text.String span) m = text_of span m

abbrev pub bytes_of_any : Option Text → InUse → Option (List ℕ)
bytes_of_any None m = None
bytes_of_any (Some t) m = Some (bytes_of t m)

-- what is left of a text's bytes
abbrev pub rest : {K : Type 0} → TextBytes K → List ℕ
rest b = drop b.at (bytes_of b.text b.memory.now)
