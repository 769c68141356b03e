use Rattle.std.proofs.Common.{◌≡◌, ℕ, ◌+◌, ◌-◌, ◌*◌, ◌<◌, ◌≤◌, true, ltb, [], ◌∷◌, ◌++◌, length, get_or, take, sym, refl, ap, ◌∙◌, subst, arith}
use Rattle.std.proofs.lemmas.List.{take_all, length_push}
use Rattle.std.proofs.lemmas.Bool.{lt-ltb}
use Rattle.std.proofs.lemmas.Bool.Decides.{nat_tests}
use Rattle.keepers.specs.Journals.{journal_kept}
use Rattle.keepers.specs.Kept.{Kept, with_slots, with_levels}
use Rattle.objects.specs.declared.fault.Fault.TheVariants.{InvalidRestore}
use Rattle.keepers.specs.Notes.{undone, noted_levels}
use Rattle.keepers.specs.declared.journal.Journal.{Journal}
use Rattle.keepers.proofs.Kept.{kept_same}
use Rattle.keepers.proofs.Fronts.{front_less, front_ends}
use Rattle.keepers.proofs.Outcomes.{accepted_after}
use Rattle.keepers.proofs.Undoing.{length_levels, levels_back}
use Rattle.keepers.proofs.journal.keeping.JournalKeeper.back_to.Goals as goal

module _ (j : Journal) (level : ℕ) where
  long : length (journal_kept j).levels ≡ j.opened
  long = length_levels j.notes.now j.counts j.opened j.slots.now

  is_open : level < j.opened → ltb level (length (journal_kept j).levels) ≡ true
  is_open h = let e = long in lt-ltb _ _ (omega arith)

pub returns-then-level-self : goal.returns-then-level-self
returns-then-level-self c = grind (arith, nat_tests, length_levels)

pub loop-newest-init : goal.loop-newest-init
loop-newest-init c =
    let j = c.args.self.now in
    let e = long j c.args.level in
    let all = (journal_kept j).levels ++ j.slots.now ∷ [] in
    let whole : length all ≤ j.opened + 1 = let p = length_push (journal_kept j).levels j.slots.now in omega arith in
    (omega arith, omega arith, sym (take_all _ all whole), refl, refl, refl, refl, refl)

pub loop-newest-preserved : goal.loop-newest-preserved
loop-newest-preserved c =
    let old = c.args.self.now in
    let m = c.loop-newest.newest in
    let s = c.loop-newest.self.slots.now in
    let r = c.play_back.new.self.slots.now in
    let inv = c.loop-newest.invariant in
    let played = c.play_back.ensures in
    let some : 0 < m = omega arith in
    let all = noted_levels old.notes.now old.counts old.opened old.slots.now ++ old.slots.now ∷ [] in
    let slots : r ≡ undone old.notes.now ((m - 1) * length s) (get_or old.counts (m - 1) 0) s = played.slots ∙ ap (λ ns. undone ns ((m - 1) * length s) (get_or c.loop-newest.self.counts (m - 1) 0) s) inv.4 ∙ ap (λ cs. undone old.notes.now ((m - 1) * length s) (get_or cs (m - 1) 0) s) inv.5 in
    let front : noted_levels old.notes.now old.counts m s ≡ take m all = front_less _ all s m (length_levels old.notes.now old.counts m s) inv.2 in
    let one : m - 1 + 1 ≡ m = omega arith in (
      omega arith,
      omega arith,
      levels_back old.notes.now old.counts m s r some slots ∙ front ∙ ap (λ k. take k all) (sym one),
      played.bytes ∙ inv.3,
      played.notes ∙ inv.4,
      played.counts ∙ inv.5,
      played.opened ∙ inv.6,
      played.limit ∙ inv.7,
    )

pub returns : goal.returns
returns c =
    let old = c.args.self.now in
    let level = c.args.level in
    let s = c.loop-newest.self.slots.now in
    let inv = c.loop-newest.invariant in
    let told = is_open old level c.if-level-self.false in
    let there : c.loop-newest.newest ≡ level = omega arith in
    let front = subst (λ (m : ℕ). noted_levels old.notes.now old.counts m s ++ s ∷ [] ≡ take (m + 1) ((journal_kept old).levels ++ old.slots.now ∷ [])) there inv.2 in
    let within : level < length (journal_kept old).levels = let e = long old level in omega arith in
    let ends = front_ends _ (journal_kept old).levels s old.slots.now [] level within front in
    let levels : noted_levels c.loop-newest.self.notes.now c.loop-newest.self.counts level s ≡ take level (journal_kept old).levels = ap (λ ns. noted_levels ns c.loop-newest.self.counts level s) inv.4 ∙ ap (λ cs. noted_levels old.notes.now cs level s) inv.5 ∙ ends.0 in
    let back : Kept = with_slots (get_or (journal_kept old).levels level []) (with_levels (take level (journal_kept old).levels) (journal_kept old)) in
    let slots = ends.1 in
    let bytes = inv.3 in
    let limit = inv.7 in
    let accepted = accepted_after _ back InvalidRestore (journal_kept old) told in
    record { answer = grind (arith, nat_tests, length_levels); state = kept_same _ back (cc) (cc) (cc) (cc) ∙ accepted }
