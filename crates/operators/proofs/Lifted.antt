-- Names that a key has joined, said of the whole machine.
use Rattle.std.proofs.Common.{◌≡◌, ℕ, Bool, true, false, cond, List, Some, None, Option, refl}
use Rattle.std.specs.Prelude.{nat_le}
use Rattle.std.specs.List.{slice_get}
use Rattle.objects.specs.declared.object.Object.{Object}
use Rattle.objects.specs.declared.object.Span.{Span}
use Rattle.names.specs.Names.{names_joined}
use Rattle.operators.specs.Keys.{names_if, names_if_there, joined_if, joined_if_there, names_with_object, names_with_key, object_joined, key_joined}
use Rattle.operators.specs.Operands.{string_of}
use Rattle.operators.specs.States.{State, with_names}
use Rattle.operators.specs.Texts.{text_of, names_with_string, string_joined}

either_way : (b : Bool) (xs : List (List ℕ)) (s : State) → with_names (cond b xs s.names) s ≡ cond b (with_names xs s) s
either_way true xs s = refl
either_way false xs s = refl

pub string_lifted : (a : Span) (s : State) → with_names (names_with_string a s.memory s.names) s ≡ string_joined a s
string_lifted a s = either_way (nat_le a.len 128) (names_joined (text_of a s.memory) s.names) s

if_string : (a : Option Span) (s : State) → with_names (names_if a s.memory s.names) s ≡ joined_if a s
if_string (Some a) s = string_lifted a s
if_string None s = refl

pub object_lifted : (o : Object) (s : State) → with_names (names_with_object o s.memory s.names) s ≡ object_joined o s
object_lifted o s = if_string (string_of o.value) s

if_there : (o : Option Object) (s : State) → with_names (names_if_there o s.memory s.names) s ≡ joined_if_there o s
if_there (Some o) s = object_lifted o s
if_there None s = refl

pub key_lifted : (n : ℕ) (s : State) → with_names (names_with_key n s.operands s.memory s.names) s ≡ key_joined n s
key_lifted n s = if_there (slice_get s.operands.objects n) s
