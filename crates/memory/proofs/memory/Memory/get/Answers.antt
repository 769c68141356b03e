use Rattle.std.proofs.Common.{◌≡◌, get_or, slice_get, Some, None, Option, ap, ◌∙◌, subst}
use Rattle.std.proofs.lemmas.Option.{unwrap_or-slice_get}
use Rattle.std.specs.Option.{ok_or, unwrap_or}
use Rattle.std.specs.Result.{ResultUnwrapsOrElse}
use Rattle.objects.specs.declared.fault.Fault.TheVariants.{RangeCheck}
use Rattle.memory.proofs.memory.Memory.get.Goals as goal

read_or : {A F : Type 0} (P : A → Type 0) (d : A) → ((x : A) → P x → x ≡ d) → (o : Option A) (f : F) (r : A) → ResultUnwrapsOrElse (ok_or o f) P r → r ≡ unwrap_or o d
read_or P d empty None f r h = empty r h
read_or P d empty (Some x) f r h = h

pub returns : goal.returns
returns g c =
    let p = g.C.Cell.part in
    let at = c.args.at in
    let xs = p.cells (g.K.Keeper.kept c.self.inside.keeper.now) in
    let r = c.unwrap_or_default.result in
    let given = subst (λ x. ResultUnwrapsOrElse x g.C.Default.is_default r) c.get.ensures c.unwrap_or_default.ensures in
    read_or g.C.Default.is_default p.empty g.met.C.Cell.empty (slice_get xs at) RangeCheck r given
    ∙ unwrap_or-slice_get xs at p.empty ∙ ap (λ m. get_or (p.cells m.kept) at p.empty) c.self.view_is
