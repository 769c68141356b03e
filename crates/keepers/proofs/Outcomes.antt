-- What a definition with one test says where the test is passed, and where it fails.
use Rattle.std.proofs.Common.{◌≡◌, Bool, true, false, cond, Ok, Err, sym, ap}
use Rattle.objects.specs.Outcomes.{after, heard}

module _ {M F : Type 0} (b : Bool) (x : M) (f : F) where
  pub accepted_heard : b ≡ true → Ok tt ≡ heard (cond b (Ok x) (Err f))
  accepted_heard e = ap (λ t. heard (cond t (Ok x) (Err f))) (sym e)

  pub accepted_after : (old : M) → b ≡ true → x ≡ after (cond b (Ok x) (Err f)) old
  accepted_after old e = ap (λ t. after (cond t (Ok x) (Err f)) old) (sym e)

  pub refused_heard : b ≡ false → Err f ≡ heard (cond b (Ok x) (Err f))
  refused_heard e = ap (λ t. heard (cond t (Ok x) (Err f))) (sym e)

  pub refused_after : (old : M) → b ≡ false → old ≡ after (cond b (Ok x) (Err f)) old
  refused_after old e = ap (λ t. after (cond t (Ok x) (Err f)) old) (sym e)
