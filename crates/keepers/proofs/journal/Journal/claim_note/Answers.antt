use Rattle.std.proofs.Common.{◌+◌, length, get_or, refl, ap}
use Rattle.std.proofs.lemmas.List.{length-set}
use Rattle.keepers.specs.Journals.{journal_kept}
use Rattle.keepers.specs.Kept.{with_levels}
use Rattle.keepers.specs.Notes.{with_claim}
use Rattle.keepers.proofs.Noting.{claim_sound, same_field}
use Rattle.keepers.proofs.Orders.{Order, ordered, sound_journal, newest_is}
use Rattle.keepers.proofs.Undoing.{levels_alike}
use Rattle.keepers.proofs.journal.Journal.claim_note.Goals as goal

pub invariant_of-self : goal.invariant_of-self
invariant_of-self c =
    let j = c.args.self.now in
    let e = c.args.entry in
    let r = c.requires.newest in
    let n = length j.slots.now in
    let sound = claim_sound j.notes.now j.counts n j.opened _ e.slot (sound_journal j) (newest_is _ r.some) r.inside c.requires.free in
    let o : Order n j.limit j.opened (with_claim j.notes.now (e.base + e.slot) (get_or j.counts e.level 0)) j.counts = rw (r.base, r.level) (ordered j _ _ (length-set j.notes.now _ _) sound) in
    record { limited = o.limited; within = o.within; counted = o.counted; named = o.named; claimed = o.claimed }

pub returns-clause-same : goal.returns-clause-same
returns-clause-same c =
    let j = c.args.self.now in
    let e = c.args.entry in
    let notes = j.notes.now in
    let claimed = with_claim notes (e.base + e.slot) (get_or j.counts e.level 0) in
    ap (λ l. with_levels l (journal_kept j)) (levels_alike claimed notes j.counts j.counts (length j.slots.now) j.opened j.slots.now refl (λ _ _. refl) (λ k m _ _. record { slot = same_field (λ x. x.slot) notes _ _ _ refl; old = same_field (λ x. x.old) notes _ _ _ refl }))
