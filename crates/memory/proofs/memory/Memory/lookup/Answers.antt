use Rattle.std.proofs.Common.{◌≡◌, ◌-◌, true, false, [], reverse, sym, refl, ap, ◌∙◌, arith, rules}
use Rattle.std.proofs.lemmas.List.{nil_from_length}
use Rattle.memory.specs.Dictionaries.{slot_in, header_in, key_place, first_pair, first_entry, entry_if}
use Rattle.memory.specs.Keys.{holds}
use Rattle.memory.proofs.Looking.{looked}
use Rattle.memory.proofs.Searches.{pair_found, pair_passed, pairs_passed, entry_top}
use Rattle.memory.proofs.memory.Memory.lookup.Goals as goal

pub down-init : goal.down-init
down-init g c =
    let m = c.args.self.now in
    let all : c.into_iter-dictionary-iterator.result.iter.rest.now ≡ c.args.dictionaries.now = search rules in
    (refl, ap (λ l. first_entry m c.args.key (reverse l)) all)

pub loop-pair-init : goal.loop-pair-init
loop-pair-init g c =
    let m = c.args.self.now in
    let key = c.args.key in
    let d = c.in-Some.field-0.now in
    let rest = c.next.new.self.iter.rest.now in
    let n = (header_in m d).count in
    let all : n - 0 ≡ n = omega arith in (
      c.down.invariant.0,
      ap (λ k. entry_if d (first_pair m d key 0 k) (first_entry m key (reverse rest))) all ∙ sym (entry_top m key rest d)
          ∙ sym (ap (λ l. first_entry m key (reverse l)) c.in-Some.ensures.steps) ∙ c.down.invariant.1,
    )

pub down-preserved : goal.down-preserved
down-preserved g c =
    let m = c.args.self.now in
    let d = c.in-Some.field-0.now in
    let below = first_entry m c.args.key (reverse c.next.new.self.iter.rest.now) in
    let count = ap (λ h. h.count) c.header-pair-end.ensures in
    let past = c.loop-pair-test.false in
    let passed = pairs_passed m d c.args.key (header_in m d).count c.loop-pair.pair (omega arith) in
    (c.loop-pair.invariant.0, sym (ap (λ p. entry_if d p below) passed) ∙ c.loop-pair.invariant.1)

pub loop-pair-preserved : goal.loop-pair-preserved
loop-pair-preserved g c =
    let m = c.args.self.now in
    let d = c.in-Some.field-0.now in
    let j = c.loop-pair.pair in
    let below = first_entry m c.args.key (reverse c.next.new.self.iter.rest.now) in
    let count = ap (λ h. h.count) c.header-pair-end.ensures in
    let told : holds c.args.key (slot_in m (key_place d j)).value ≡ false = sym c.has_key.ensures ∙ c.if-has_key.false in
    let more = c.loop-pair-test.true in
    let passed = pair_passed m d c.args.key (header_in m d).count j (omega arith) told in
    (c.loop-pair.invariant.0, sym (ap (λ p. entry_if d p below) passed) ∙ c.loop-pair.invariant.1)

pub returns-in-None : goal.returns-in-None
unfolding first_entry
returns-in-None g c =
    let m = c.args.self.now in
    let none : c.down.dictionary-iterator.iter.rest.now ≡ [] = nil_from_length _ c.in-None.ensures.steps.0 in
    let value = c.down.invariant.0 ∙ sym (ap (λ l. first_entry m c.args.key (reverse l)) none) ∙ c.down.invariant.1 in
    record { value = value; nearest = looked m c.args.key c.args.dictionaries.now _ value }

pub returns-then-has_key : goal.returns-then-has_key
returns-then-has_key g c =
    let m = c.args.self.now in
    let d = c.in-Some.field-0.now in
    let j = c.loop-pair.pair in
    let below = first_entry m c.args.key (reverse c.next.new.self.iter.rest.now) in
    let count = ap (λ h. h.count) c.header-pair-end.ensures in
    let told : holds c.args.key (slot_in m (key_place d j)).value ≡ true = sym c.has_key.ensures ∙ c.if-has_key.true in
    let more = c.loop-pair-test.true in
    let found = pair_found m d c.args.key (header_in m d).count j (omega arith) told in
    let value = sym (ap (λ p. entry_if d p below) found) ∙ c.loop-pair.invariant.1 in
    record { value = value; nearest = looked m c.args.key c.args.dictionaries.now _ value }
