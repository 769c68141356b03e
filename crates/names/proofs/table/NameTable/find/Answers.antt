use Rattle.std.proofs.Common.{◌≡◌, ◌<◌, length, get_or, None, sym, ap, ◌∙◌, subst, rules, arith}
use Rattle.std.specs.Cmp.{unsigned_Decides}
use Rattle.std.proofs.lemmas.Slice.Eq.{slice_eq-Decides}
use Rattle.std.proofs.lemmas.Bool.Decides.{not_from_Decides}
use Rattle.names.specs.Index.{entry_at, name_in, names_in, bucket_of, latest}
use Rattle.names.specs.Names.{place_of, Apart}
use Rattle.names.proofs.Chains.{Leads, up_to, latest_leads, leads_on, leads_here, leads_nowhere}
use Rattle.names.proofs.Laid.{length_names, name_at}
use Rattle.names.proofs.table.NameTable.find.Goals as goal

pub loop-link-init : goal.loop-link-init
loop-link-init c =
    let t = c.self.inside in
    let names = names_in t.bytes t.entries.items in
    let many = length t.entries.items in
    let head : get_or t.heads c.bucket.result None ≡ latest (bucket_of c.args.text.now) names many = c.self.invariant.newest c.bucket.result c.bucket.ensures.within ∙ ap (λ b. latest b names many) c.bucket.ensures.number in
    subst (Leads c.args.text.now names many) (sym head) (latest_leads c.args.text.now names many)

pub returns-then-eq-clause-answer : goal.returns-then-eq-clause-answer
returns-then-eq-clause-answer c =
    let t = c.self.inside in
    let k = c.in-Some.number in
    let low : k < length t.entries.items = omega (arith, c.loop-link.invariant.below, ap up_to c.in-Some.is) in
    let read : c.name.result.now ≡ name_in t.bytes (entry_at t.entries.items k) = search rules in
    let same = (slice_eq-Decides unsigned_Decides _ _ _ c.eq.ensures).0 c.if-eq.true in
    leads_here c.args.text.now (names_in t.bytes t.entries.items) (length t.entries.items) c.loop-link.link c.loop-link.invariant (length_names t.bytes t.entries.items) c.self.invariant.apart k c.in-Some.is (name_at t.bytes t.entries.items k low ∙ sym read ∙ same)
    ∙ ap (place_of c.args.text.now) c.self.view_is

onward : (c : goal.Else-eq) → Leads c.args.text.now (names_in c.self.inside.bytes c.self.inside.entries.items) (length c.self.inside.entries.items) (entry_at c.deref.result.now c.from.result).next × (up_to (entry_at c.deref.result.now c.from.result).next < up_to c.loop-link.link)
onward c =
    let t = c.self.inside in
    let k = c.in-Some.number in
    let names = names_in t.bytes t.entries.items in
    let low : k < length t.entries.items = omega (arith, c.loop-link.invariant.below, ap up_to c.in-Some.is) in
    let read : c.name.result.now ≡ name_in t.bytes (entry_at t.entries.items k) = search rules in
    let name = name_at t.bytes t.entries.items k low in
    let there : entry_at c.deref.result.now c.from.result ≡ entry_at t.entries.items k = search rules in
    leads_on c.args.text.now names (length t.entries.items) c.loop-link.link c.loop-link.invariant k c.in-Some.is
    (λ e. not_from_Decides c.eq.result (slice_eq-Decides unsigned_Decides _ _ _ c.eq.ensures) c.if-eq.false (read ∙ sym name ∙ e))
    (entry_at c.deref.result.now c.from.result).next
    (ap (λ e. e.next) there ∙ c.self.invariant.linked k low ∙ ap (λ n. latest (bucket_of n) names k) (sym name))

pub loop-link-smaller : goal.loop-link-smaller
loop-link-smaller c = (onward c).1

pub loop-link-preserved : goal.loop-link-preserved
loop-link-preserved c = (onward c).0

pub returns-clause-answer : goal.returns-clause-answer
returns-clause-answer c =
    let t = c.self.inside in
    leads_nowhere c.args.text.now (names_in t.bytes t.entries.items) (length t.entries.items) c.loop-link.link c.loop-link.invariant (length_names t.bytes t.entries.items) c.self.invariant.apart c.in_default.is
    ∙ ap (place_of c.args.text.now) c.self.view_is

pub returns-then-eq-clause-apart : goal.returns-then-eq-clause-apart
returns-then-eq-clause-apart c = subst Apart c.self.view_is c.self.invariant.apart

pub returns-clause-apart : goal.returns-clause-apart
returns-clause-apart c = subst Apart c.self.view_is c.self.invariant.apart
