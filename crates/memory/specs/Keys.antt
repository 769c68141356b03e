-- The keys of a dictionary: names, integers and booleans, kept literal.
use Rattle.std.specs.Prelude.{Bool, true, false, not, ℤ, pos, negsuc, Some, None, Option, ◌==◌}
use Rattle.objects.specs.declared.object.Object.{Object}
use Rattle.objects.specs.declared.object.Value.{Value}
use Rattle.objects.specs.declared.object.Value.TheVariants as value
use Rattle.memory.specs.declared.key.Key.{Key}
use Rattle.memory.specs.declared.key.Key.TheVariants.{Name, Integer, Boolean}

abbrev pub key_of : Value → Option Key
key_of value.Null = None
key_of (value.Integer n) = Some (Integer n)
key_of (value.Boolean b) = Some (Boolean b)
key_of value.Mark = None
key_of (value.Name n) = Some (Name n)
key_of (value.Operator o) = None
key_of (value.Array s) = None
key_of (value.String s) = None
key_of (value.Dictionary d) = None
key_of (value.Save n) = None
key_of (value.Header h) = None

abbrev pub key_value : Key → Value
key_value (Name n) = value.Name n
key_value (Integer n) = value.Integer n
key_value (Boolean b) = value.Boolean b

abbrev pub key_object : Key → Object
key_object k = record { value = key_value k; executable = false }

abbrev pub same_integer : ℤ → ℤ → Bool
same_integer (pos a) (pos b) = a == b
same_integer (pos a) (negsuc b) = false
same_integer (negsuc a) (pos b) = false
same_integer (negsuc a) (negsuc b) = a == b

abbrev pub same_flag : Bool → Bool → Bool
same_flag true b = b
same_flag false b = not b

-- no two of different types are the same
abbrev pub same_key : Key → Key → Bool
same_key (Name a) (Name b) = a == b
same_key (Name a) (Integer b) = false
same_key (Name a) (Boolean b) = false
same_key (Integer a) (Name b) = false
same_key (Integer a) (Integer b) = same_integer a b
same_key (Integer a) (Boolean b) = false
same_key (Boolean a) (Name b) = false
same_key (Boolean a) (Integer b) = false
same_key (Boolean a) (Boolean b) = same_flag a b

abbrev pub same_if_any : Key → Option Key → Bool
same_if_any k None = false
same_if_any k (Some other) = same_key k other

abbrev pub holds : Key → Value → Bool
holds k v = same_if_any k (key_of v)
