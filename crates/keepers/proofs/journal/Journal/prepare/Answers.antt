use Rattle.std.proofs.Common.{sym, refl, ap, ◌∙◌}
use Rattle.keepers.specs.Journals.{has_newest}
use Rattle.keepers.proofs.Noting.{no_levels, noted_same}
use Rattle.keepers.proofs.Orders.{newest_is}
use Rattle.keepers.proofs.journal.Journal.prepare.Goals as goal

pub returns-in_default : goal.returns-in_default
returns-in_default c =
    let j = c.args.self.now in
    record { slots = refl; bytes = refl; limit = refl; levels = λ o. no_levels j.notes.now j.counts j.opened _ _ c.in_default.ensures.none }

pub returns-then-has_note : goal.returns-then-has_note
returns-then-has_note c =
    let j = c.args.self.now in
    let found = c.in-Some.ensures.some in
    let noted = ap (has_newest j) (sym found.1) ∙ sym c.has_note.ensures ∙ c.if-has_note.true in
    record { slots = refl; bytes = refl; limit = refl; levels = λ o. noted_same j.notes.now j.counts j.opened _ c.args.slot j.slots.now o (newest_is _ found.0.some) noted }
