-- The literal objects that operators and the scanner make.
use Rattle.std.specs.Prelude.{Bool, false, ℤ}
use Rattle.objects.specs.declared.object.Object.{Object}
use Rattle.objects.specs.declared.object.Value.{Value}
use Rattle.objects.specs.declared.object.Value.TheVariants.{Integer, Boolean}

abbrev pub literal : Value → Object
literal v = record { value = v; executable = false }

abbrev pub integer : ℤ → Object
integer z = literal (Integer z)

abbrev pub truth : Bool → Object
truth b = literal (Boolean b)
