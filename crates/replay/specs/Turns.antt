-- How slots hold a phase and a modifier, which level each save opens, and how both are printed.
use Rattle.std.specs.Prelude.{ℕ, List, ℤ, Some, None, Option, codes, pos}
use Rattle.objects.specs.Objects.{integer}
use Rattle.objects.specs.declared.object.Object.{Object}
use Rattle.objects.specs.declared.object.Value.{Value}
use Rattle.objects.specs.declared.object.Value.TheVariants as value
use Rattle.replay.specs.declared.phase.Phase.{Phase}
use Rattle.replay.specs.declared.phase.Phase.TheVariants.{Muster, Battle, Aftermath}
use Rattle.replay.specs.declared.moves.Save.{Save}
use Rattle.replay.specs.declared.moves.Save.TheVariants.{Outer, Inner}
use Rattle.replay.specs.declared.scene.Scene.{Scene}
use Rattle.replay.specs.declared.replay.Remembered.{Remembered}

abbrev pub phase_object : Phase → Object
phase_object Muster = integer (pos 1)
phase_object Battle = integer (pos 2)
phase_object Aftermath = integer (pos 3)

abbrev pub phase_word : Phase → List ℕ
phase_word Muster = codes "muster"
phase_word Battle = codes "battle"
phase_word Aftermath = codes "aftermath"

-- the integer that a slot holds
abbrev pub number_in : Value → Option ℤ
number_in value.Null = None
number_in (value.Integer z) = Some z
number_in (value.Boolean b) = None
number_in value.Mark = None
number_in (value.Name n) = None
number_in (value.Operator o) = None
number_in (value.Array s) = None
number_in (value.String s) = None
number_in (value.Dictionary d) = None
number_in (value.Save n) = None
number_in (value.Header h) = None

abbrev pub save_level : Save → ℕ
save_level Outer = 0
save_level Inner = 1

abbrev pub save_word : Save → List ℕ
save_word Outer = codes "outer"
save_word Inner = codes "inner"

abbrev pub noted : Save → Scene → Remembered → Remembered
noted Outer s r = record r { outer = s }
noted Inner s r = record r { inner = s }

abbrev pub remembered : Save → Remembered → Scene
remembered Outer r = r.outer
remembered Inner r = r.inner
