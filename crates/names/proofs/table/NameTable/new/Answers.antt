use Rattle.std.proofs.Common.{replicate, None, sym, ap, ◌∙◌, subst}
use Rattle.std.proofs.lemmas.List.{get_or-replicate}
use Rattle.names.specs.Index.{names_in, Sound}
use Rattle.names.proofs.Sound.{no_names, sound_empty}
use Rattle.names.proofs.table.NameTable.new.Goals as goal

pub invariant_of-result : goal.invariant_of-result
invariant_of-result c =
    subst (λ es. Sound (replicate 8192 0) 0 es (replicate 1024 None)) (sym c.new.ensures)
    (sound_empty (replicate 8192 0) (replicate 1024 None) (λ b h. get_or-replicate 1024 b None None h))

pub returns : goal.returns
returns c = ap (names_in (replicate 8192 0)) c.new.ensures ∙ no_names _
