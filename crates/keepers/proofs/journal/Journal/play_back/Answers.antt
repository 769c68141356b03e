use Rattle.std.proofs.Common.{◌≡◌, ◌+◌, ◌-◌, ◌<◌, get_or, set, sym, ap, ◌∙◌, arith}
use Rattle.keepers.specs.Notes.{note_at, undone}
use Rattle.keepers.proofs.Undoing.{undone_newest, undone_none}
use Rattle.keepers.proofs.journal.Journal.play_back.Goals as goal

pub loop-j-preserved : goal.loop-j-preserved
loop-j-preserved c =
    let j = c.loop-j.self in
    let notes = c.args.self.now.notes.now in
    let b = c.part-base.result in
    let m = c.loop-j.j in
    let inv = c.loop-j.invariant in
    let some : 0 < m = omega arith in
    let read : undone notes b (m - 1) (set j.slots.now (note_at j.notes.now (b + (m - 1))).slot (note_at j.notes.now (b + (m - 1))).old) ≡ undone notes b (m - 1) (set j.slots.now (note_at notes (b + (m - 1))).slot (note_at notes (b + (m - 1))).old) = ap (λ ns. undone notes b (m - 1) (set j.slots.now (note_at ns (b + (m - 1))).slot (note_at ns (b + (m - 1))).old)) inv.3 in
    (omega arith, read ∙ undone_newest notes b m j.slots.now some ∙ inv.1, inv.2, inv.3, inv.4, inv.5, inv.6)

pub returns : goal.returns
returns c =
    let j = c.loop-j.self in
    let old = c.args.self.now in
    let inv = c.loop-j.invariant in
    let none : c.loop-j.j ≡ 0 = omega arith in
    record {
      slots = sym (undone_none c.args.self.now.notes.now c.part-base.result c.loop-j.j j.slots.now none) ∙ inv.1 ∙ ap (λ b. undone old.notes.now b (get_or old.counts c.args.level 0) old.slots.now) c.part-base.ensures.value;
      bytes = inv.2;
      notes = inv.3;
      counts = inv.4;
      opened = inv.5;
      limit = inv.6;
    }
