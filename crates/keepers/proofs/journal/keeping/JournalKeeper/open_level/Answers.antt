use Rattle.std.proofs.Common.{◌≡◌, ◌<◌, true, ltb, length, ap, ◌∙◌, arith}
use Rattle.std.proofs.lemmas.Bool.{lt-ltb}
use Rattle.std.proofs.lemmas.Bool.Decides.{nat_tests}
use Rattle.keepers.specs.Journals.{journal_kept}
use Rattle.keepers.specs.Kept.{with_levels}
use Rattle.keepers.specs.declared.journal.Journal.{Journal}
use Rattle.keepers.proofs.Limits.{limit_most}
use Rattle.keepers.proofs.Noting.{open_sound}
use Rattle.keepers.proofs.Orders.{sound_journal}
use Rattle.keepers.proofs.Outcomes.{accepted_after}
use Rattle.keepers.proofs.Undoing.{length_levels, levels_open}
use Rattle.keepers.proofs.journal.keeping.JournalKeeper.open_level.Goals as goal

module _ (j : Journal) where
  below_limit : j.opened < j.limit → ltb (length (journal_kept j).levels) j.limit ≡ true
  below_limit h = let e = length_levels j.notes.now j.counts j.opened j.slots.now in lt-ltb _ _ (omega arith)

  counted : length j.counts ≡ 15 → j.opened < j.limit → j.opened < length j.counts
  counted long h = let e = j.limited in let most = limit_most (length j.slots.now) (length j.notes.now) in omega arith

pub returns-then-self : goal.returns-then-self
returns-then-self c = grind (arith, nat_tests, length_levels)

pub invariant_of-self : goal.invariant_of-self
invariant_of-self c =
    let j = c.args.self.now in
    let sound = open_sound j.notes.now j.counts (length j.slots.now) j.opened (counted j (omega arith) c.if-self.false) (sound_journal j) in
    record { limited = j.limited; within = omega arith; counted = sound.counted; named = sound.named; claimed = sound.claimed }

pub returns : goal.returns
returns c =
    let j = c.args.self.now in
    let told = below_limit j c.if-self.false in
    let levels = levels_open j.notes.now j.counts j.opened j.slots.now (counted j (omega arith) c.if-self.false) in
    record {
      answer = grind (arith, nat_tests, length_levels);
      state = ap (λ l. with_levels l (journal_kept j)) levels ∙ accepted_after _ _ _ _ told;
    }
