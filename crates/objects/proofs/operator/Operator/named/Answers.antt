use Rattle.std.proofs.Common.{rules, sym, ◌∙◌}
use Rattle.std.proofs.lemmas.Iterator.{YieldsList-from_slice}
use Rattle.std.proofs.lemmas.Iterator.Adapters.{option_map_id}
use Rattle.std.proofs.lemmas.Iterator.Consumers.{YieldsList-from_copied}
use Rattle.std.proofs.lemmas.Iterator.Search.{find_from_yields_List}
use Rattle.std.specs.Str.{bytes_eq}
use Rattle.objects.specs.Operators.{name, operators}
use Rattle.objects.proofs.Operators.{named_name}
use Rattle.objects.proofs.operator.Operator.named.Goals as goal

pub returns-clause-answer : goal.returns-clause-answer
returns-clause-answer c =
    let found = sym (option_map_id c.find.result) ∙ find_from_yields_List (λ o. bytes_eq (name o) c.args.text.now) _ _ _ c.find.ensures.ran (YieldsList-from_copied (YieldsList-from_slice operators cc)) (λ x b q k. search rules) in
    cc

pub returns-clause-unique : goal.returns-clause-unique
returns-clause-unique c = named_name
