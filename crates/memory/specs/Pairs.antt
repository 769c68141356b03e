-- Dictionaries by their pairs: which pair has a key, when a dictionary lies whole in memory, what defining a key and looking one up mean.
use Rattle.std.specs.Prelude.{◌≡◌, ℕ, ◌+◌, ◌*◌, ◌<◌, ◌≤◌, ◌⊎◌, List, length, Some, None, Ok, Err, Option, Result, ◌≢◌, slice_index, slice_index_or}
use Rattle.objects.specs.declared.fault.Fault.{Fault}
use Rattle.objects.specs.declared.fault.Fault.TheVariants.{DictFull}
use Rattle.objects.specs.declared.object.Object.{Object}
use Rattle.objects.specs.declared.object.Value.TheVariants as value
use Rattle.memory.specs.Dictionaries.{slot_in, header_in, key_place, value_place, pair_of}
use Rattle.memory.specs.Keys.{key_of}
use Rattle.memory.specs.Memories.{InUse}
use Rattle.memory.specs.declared.dictionary.Entry.{Entry}
use Rattle.memory.specs.declared.key.Key.{Key}

-- pair i is one of the dictionary's pairs, and its key slot has the key
pub record HasPair (m : InUse) (d : ℕ) (k : Key) (i : ℕ) : Type 0 where
  pub counted : i < (header_in m d).count
  pub key : key_of (slot_in m (key_place d i)).value ≡ Some k

-- a dictionary that lies whole in memory: a header, no more pairs than it has room for, and all that room inside the slots
pub record Whole (m : InUse) (d : ℕ) : Type 0 where
  pub header : (slot_in m d).value ≡ value.Header (header_in m d)
  pub counted : (header_in m d).count ≤ (header_in m d).capacity
  pub inside : d + 1 + 2 * (header_in m d).capacity ≤ length m.kept.slots

-- a dictionary just made: no key has a pair, and there is room for as many as were asked for
pub record Empty (m : InUse) (d : ℕ) (capacity : ℕ) : Type 0 where
  pub none : (k : Key) → pair_of m d k ≡ None
  pub room : (header_in m d).capacity ≡ capacity
  pub whole : Whole m d

-- what making a dictionary answers and leaves: the dictionary starts at the old top, and the slots below are as they were
pub record MadeAt (old new : InUse) (capacity d : ℕ) : Type 0 where
  pub start : d ≡ old.slot_top
  pub empty : Empty new d capacity
  pub older : (i : ℕ) → i < old.slot_top → slot_in new i ≡ slot_in old i

abbrev pub Made : InUse → InUse → ℕ → Result ℕ Fault → Type 0
Made old new capacity (Ok d) = MadeAt old new capacity d
Made old new capacity (Err f) = new ≡ old

-- a key defined in a dictionary
pub record Entered (old new : InUse) (d : ℕ) (k : Key) (o : Object) : Type 0 where
  -- the key is found, and its value is the object
  pub found : (i : ℕ) × ((pair_of new d k ≡ Some i) × (slot_in new (value_place d i) ≡ o))
  -- a key that was there is where it was, and no pair comes or goes
  pub again : (i : ℕ) → pair_of old d k ≡ Some i → (pair_of new d k ≡ Some i) × ((header_in new d).count ≡ (header_in old d).count)
  -- a new key comes behind the last pair
  pub behind : pair_of old d k ≡ None → (pair_of new d k ≡ Some (header_in old d).count) × ((header_in new d).count ≡ (header_in old d).count + 1)
  -- every other key is found where it was, or not, as before, and reads as before
  pub others : (x : Key) → (x ≢ k) → pair_of new d x ≡ pair_of old d x
  pub values : (x : Key) → (x ≢ k) → (i : ℕ) → pair_of old d x ≡ Some i → slot_in new (value_place d i) ≡ slot_in old (value_place d i)
  -- the keys that were there stay in their order
  pub order : (i : ℕ) → i < (header_in old d).count → slot_in new (key_place d i) ≡ slot_in old (key_place d i)
  pub room : (header_in new d).capacity ≡ (header_in old d).capacity
  pub whole : Whole new d

-- dictfull, and no other refusal, exactly for a new key at capacity
pub record FullOnly (m : InUse) (d : ℕ) (k : Key) (r : Result (Unit {0}) Fault) : Type 0 where
  pub full : pair_of m d k ≡ None → (header_in m d).capacity ≤ (header_in m d).count → r ≡ Err DictFull
  pub there : (i : ℕ) → pair_of m d k ≡ Some i → r ≡ Ok tt
  pub room : (header_in m d).count < (header_in m d).capacity → r ≡ Ok tt

-- what defining a key answers and leaves
pub record Defining (old new : InUse) (d : ℕ) (k : Key) (o : Object) (r : Result (Unit {0}) Fault) : Type 0 where
  pub refused : FullOnly old d k r
  pub entered : Whole old d → r ≡ Ok tt → Entered old new d k o
  -- what is not the dictionary's own is untouched
  pub outside : Whole old d → (i : ℕ) → (i < d) ⊎ (d + 1 + 2 * (header_in old d).capacity ≤ i) → slot_in new i ≡ slot_in old i

-- a key looked up in the dictionaries, of which the last is the top: at place p of the stack, in the first pair that has it, and in no dictionary nearer the top
pub record FoundAt (m : InUse) (k : Key) (ds : List ℕ) (e : Entry) : Type 0 where
  pub place : ℕ
  pub inside : place < length ds
  pub dictionary : slice_index_or ds place 0 ≡ e.dictionary
  pub pair : HasPair m e.dictionary k e.pair
  pub first : (i : ℕ) → i < e.pair → HasPair m e.dictionary k i → ⊥
  pub nearest : (q : ℕ) → place < q → q < length ds → (i : ℕ) → HasPair m (slice_index ds q) k i → ⊥

abbrev pub Looked : InUse → Key → List ℕ → Option Entry → Type 0
Looked m k ds (Some e) = FoundAt m k ds e
Looked m k ds None = (q : ℕ) → q < length ds → (i : ℕ) → HasPair m (slice_index ds q) k i → ⊥
