use Rattle.std.proofs.Common.{◌≡◌, ◌+◌, ◌-◌, ◌<◌, length, get_or, set, refl, arith}
use Rattle.std.proofs.lemmas.List.{length-set}
use Rattle.keepers.specs.Journals.{claims_next, OfNewest}
use Rattle.keepers.specs.Kept.{blank}
use Rattle.keepers.specs.Notes.{noted_levels, with_note}
use Rattle.objects.specs.declared.object.Object.{Object}
use Rattle.keepers.specs.declared.journal.Journal.{Journal}
use Rattle.keepers.specs.declared.note.Entry.{Entry}
use Rattle.keepers.proofs.Noting.{count_below, note_sound, note_levels}
use Rattle.keepers.proofs.Orders.{Order, ordered, sound_journal, newest_is}
use Rattle.keepers.proofs.journal.Journal.take_note.Goals as goal

-- where the note is taken
module _ (j : Journal) (e : Entry) (r : OfNewest j e) (next : claims_next j e.slot) where
  place_inside : e.base + get_or j.counts e.level 0 < length j.notes.now
  place_inside =
      let below = count_below j.notes.now j.counts _ j.opened _ e.slot (sound_journal j) (newest_is _ r.some) r.inside next in
      let room = r.room in
      rw (r.base, r.level) (omega arith)

  module _ (long : length j.counts ≡ 15) where
    few : j.opened - 1 < length j.counts
    few = let a = r.few in let b = r.some in omega arith

    order : Order (length j.slots.now) j.limit j.opened (with_note j.notes.now (e.base + get_or j.counts e.level 0) e.slot (get_or j.slots.now e.slot blank)) (set j.counts e.level (get_or j.counts e.level 0 + 1))
    order = rw (r.base, r.level) (ordered j _ _ (length-set j.notes.now _ _)
        (note_sound j.notes.now j.counts _ j.opened _ e.slot (sound_journal j) (newest_is _ r.some) r.inside next (get_or j.slots.now e.slot blank) few r.room))

    levels : (o : Object) → noted_levels (with_note j.notes.now (e.base + get_or j.counts e.level 0) e.slot (get_or j.slots.now e.slot blank)) (set j.counts e.level (get_or j.counts e.level 0 + 1)) j.opened (set j.slots.now e.slot o) ≡ noted_levels j.notes.now j.counts j.opened j.slots.now
    levels o = rw (r.base, r.level) (note_levels j.notes.now j.counts _ j.opened _ e.slot (sound_journal j) (newest_is _ r.some) r.inside next few r.room j.slots.now refl o)

pub bounds-self-place : goal.bounds-self-place
bounds-self-place c = place_inside c.args.self.now c.args.entry c.requires.newest c.requires.claimed

pub bounds-self-place-2 : goal.bounds-self-place-2
bounds-self-place-2 c = place_inside c.args.self.now c.args.entry c.requires.newest c.requires.claimed

pub invariant_of-self : goal.invariant_of-self
invariant_of-self c =
    let o = order c.args.self.now c.args.entry c.requires.newest c.requires.claimed (omega arith) in
    record { limited = o.limited; within = o.within; counted = o.counted; named = o.named; claimed = o.claimed }

pub returns : goal.returns
returns c = record { slots = refl; bytes = refl; limit = refl; levels = levels c.args.self.now c.args.entry c.requires.newest c.requires.claimed (omega arith) }
