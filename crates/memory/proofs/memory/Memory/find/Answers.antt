use Rattle.std.proofs.Common.{◌≡◌, true, false, ap, ◌∙◌, rules, tests}
use Rattle.std.proofs.lemmas.Iterator.{first_from_Range}
use Rattle.memory.specs.Dictionaries.{first_pair}
use Rattle.memory.proofs.Pairs.{held}
use Rattle.memory.proofs.Searches.{first_is}
use Rattle.memory.proofs.memory.Memory.find.Goals as goal

pub returns : goal.returns
returns g c =
    let m = c.args.self.now in
    let d = c.args.dictionary in
    let key = c.args.key in
    let found = first_from_Range _ _ _ c.find.result (λ i. held m d key i ≡ true) (λ i. held m d key i ≡ false) c.find.ensures.ran (λ x q k. search (rules, tests)) (λ x q k. search (rules, tests)) in
    first_is m d key c.header.result.count c.find.result found ∙ ap (λ h. first_pair m d key 0 h.count) c.header.ensures
