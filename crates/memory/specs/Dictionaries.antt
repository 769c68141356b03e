-- Dictionaries in slots: a header, then key and value pairs in the order of first definition.
use Rattle.std.specs.Prelude.{ℕ, zero, suc, ◌+◌, ◌*◌, false, cond, List, [], ◌∷◌, Some, None, Ok, Err, Option, Result, nat_lt, slice_index_or}
use Rattle.objects.specs.declared.fault.Fault.{Fault}
use Rattle.objects.specs.declared.fault.Fault.TheVariants.{DictFull}
use Rattle.objects.specs.declared.object.Header.{Header}
use Rattle.objects.specs.declared.object.Object.{Object}
use Rattle.objects.specs.declared.object.Value.{Value}
use Rattle.objects.specs.declared.object.Value.TheVariants as value
use Rattle.keepers.specs.Kept.{blank}
use Rattle.memory.specs.Keys.{key_object, holds}
use Rattle.memory.specs.Memories.{InUse, with_slot, take_slots}
use Rattle.memory.specs.declared.dictionary.Entry.{Entry}
use Rattle.memory.specs.declared.key.Key.{Key}

abbrev pub slot_in : InUse → ℕ → Object
slot_in m i = slice_index_or m.kept.slots i blank

abbrev no_header : Header
no_header = record { count = 0; capacity = 0 }

abbrev pub header_of : Value → Header
header_of value.Null = no_header
header_of (value.Integer n) = no_header
header_of (value.Boolean b) = no_header
header_of value.Mark = no_header
header_of (value.Name n) = no_header
header_of (value.Operator o) = no_header
header_of (value.Array s) = no_header
header_of (value.String s) = no_header
header_of (value.Dictionary d) = no_header
header_of (value.Save n) = no_header
header_of (value.Header h) = h

abbrev pub header_in : InUse → ℕ → Header
header_in m d = header_of (slot_in m d).value

-- where the key and the value of a dictionary's pair i lie
abbrev pub key_place : ℕ → ℕ → ℕ
key_place d i = d + 1 + 2 * i

abbrev pub value_place : ℕ → ℕ → ℕ
value_place d i = d + 2 + 2 * i

-- the first of n pairs, from pair i on, that has the key
unfoldable pub first_pair : InUse → ℕ → Key → ℕ → ℕ → Option ℕ
first_pair m d k i zero = None
first_pair m d k i (suc n) = cond (holds k (slot_in m (key_place d i)).value) (Some i) (first_pair m d k (i + 1) n)

abbrev pub pair_of : InUse → ℕ → Key → Option ℕ
pair_of m d k = first_pair m d k 0 (header_in m d).count

abbrev pub entry_if : ℕ → Option ℕ → Option Entry → Option Entry
entry_if d None below = below
entry_if d (Some i) below = Some (record { dictionary = d; pair = i })

-- the search goes down the dictionaries, given from the top, and ends at the first match
unfoldable pub first_entry : InUse → Key → List ℕ → Option Entry
first_entry m k [] = None
first_entry m k (d ∷ ds) = entry_if d (pair_of m d k) (first_entry m k ds)

abbrev pub header_object : ℕ → ℕ → Object
header_object count capacity = record { value = value.Header (record { count = count; capacity = capacity }); executable = false }

-- a dictionary for n entries takes 1 + 2n slots: an empty header, then room for the pairs
abbrev pub with_header : ℕ → ℕ → Result InUse Fault → Result InUse Fault
with_header d n (Ok m) = Ok (with_slot d (header_object 0 n) m)
with_header d n (Err f) = Err f

abbrev pub dictionary_made : ℕ → InUse → Result InUse Fault
dictionary_made n m = with_header m.slot_top n (take_slots (1 + 2 * n) m)

-- the pair behind the last one, and the header that counts it
abbrev pub pair_added : ℕ → Key → Object → InUse → InUse
pair_added d k o m =
    let h = header_in m d in
    with_slot d (header_object (h.count + 1) h.capacity) (with_slot (value_place d h.count) o (with_slot (key_place d h.count) (key_object k) m))

-- a key that is there gets the new value in its place; a new key is added, or dictfull at capacity
abbrev pub defined_at : ℕ → Key → Object → InUse → Option ℕ → Result InUse Fault
defined_at d k o m (Some i) = Ok (with_slot (value_place d i) o m)
defined_at d k o m None = cond (nat_lt (header_in m d).count (header_in m d).capacity) (Ok (pair_added d k o m)) (Err DictFull)

abbrev pub defined : ℕ → Key → Object → InUse → Result InUse Fault
defined d k o m = defined_at d k o m (pair_of m d k)
