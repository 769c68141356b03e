use Rattle.std.proofs.Common.{◌≡◌, ◌-◌, reverse, None}
use Rattle.memory.specs.Dictionaries.{header_in, first_pair, entry_if, first_entry}
use Rattle.memory.proofs.memory.Memory.lookup.Given as goal

-- the dictionaries not yet searched give what all of them give
abbrev pub invariant-down : goal.invariant-down
invariant-down g l =
    let m = l.self in
    (l.found ≡ None) × (first_entry m l.key (reverse l.dictionary-iterator.iter.rest.now) ≡ first_entry m l.key (reverse l.dictionaries))

-- and so do the pairs not yet compared and the dictionaries below
abbrev pub invariant-loop-pair : goal.invariant-loop-pair
invariant-loop-pair g l =
    let m = l.self in
    (l.found ≡ None)
    × (entry_if l.dictionary (first_pair m l.dictionary l.key l.pair ((header_in m l.dictionary).count - l.pair)) (first_entry m l.key (reverse l.dictionary-iterator.iter.rest.now))
    ≡ first_entry m l.key (reverse l.dictionaries))
