-- What a keeper stands for: when two are the same, and what a call leaves by whether it is accepted.
use Rattle.std.proofs.Common.{◌≡◌, ℕ, ◌<◌, ◌≤◌, Bool, true, false, cond, ltb, [], ◌∷◌, ◌++◌, length, get_or, take, set, Ok, Err, refl, ap, ◌∙◌}
use Rattle.std.proofs.lemmas.Bool.{ltb-true, ltb-false}
use Rattle.objects.specs.Outcomes.{after}
use Rattle.objects.specs.declared.fault.Fault.TheVariants.{RangeCheck, LimitCheck, InvalidRestore}
use Rattle.objects.specs.declared.object.Object.{Object}
use Rattle.keepers.specs.Kept.{Kept, with_slots, with_bytes, with_levels, put_slot, put_byte, open_level, back_to}

pub kept_same : (a b : Kept) → a.slots ≡ b.slots → a.bytes ≡ b.bytes → a.levels ≡ b.levels → a.limit ≡ b.limit → a ≡ b
kept_same a b slots bytes levels limit =
    ap (λ x. record { slots = x; bytes = a.bytes; levels = a.levels; limit = a.limit }) slots
    ∙ ap (λ x. record { slots = b.slots; bytes = x; levels = a.levels; limit = a.limit }) bytes
    ∙ ap (λ x. record { slots = b.slots; bytes = b.bytes; levels = x; limit = a.limit }) levels
    ∙ ap (λ x. record { slots = b.slots; bytes = b.bytes; levels = b.levels; limit = x }) limit

after_either : {M F : Type 0} (P : M → Type 0) (b : Bool) (x : M) (f : F) (old : M) → (b ≡ true → P x) → (b ≡ false → P old) → P (after (cond b (Ok x) (Err f)) old)
after_either P true x f old accepted refused = accepted refl
after_either P false x f old accepted refused = refused refl

-- a fact of what a call leaves, from the fact where it is accepted and where it is refused
module _ (P : Kept → Type 0) (k : Kept) where
  pub after_put_slot : (i : ℕ) (o : Object) → (i < length k.slots → P (with_slots (set k.slots i o) k)) → (length k.slots ≤ i → P k) → P (after (put_slot i o k) k)
  after_put_slot i o accepted refused = after_either P (ltb i (length k.slots)) (with_slots (set k.slots i o) k) RangeCheck k (λ t. accepted (ltb-true _ _ t)) (λ t. refused (ltb-false _ _ t))

  pub after_put_byte : (i b : ℕ) → (i < length k.bytes → P (with_bytes (set k.bytes i b) k)) → (length k.bytes ≤ i → P k) → P (after (put_byte i b k) k)
  after_put_byte i b accepted refused = after_either P (ltb i (length k.bytes)) (with_bytes (set k.bytes i b) k) RangeCheck k (λ t. accepted (ltb-true _ _ t)) (λ t. refused (ltb-false _ _ t))

  pub after_open : (length k.levels < k.limit → P (with_levels (k.levels ++ k.slots ∷ []) k)) → (k.limit ≤ length k.levels → P k) → P (after (open_level k) k)
  after_open accepted refused = after_either P (ltb (length k.levels) k.limit) (with_levels (k.levels ++ k.slots ∷ []) k) LimitCheck k (λ t. accepted (ltb-true _ _ t)) (λ t. refused (ltb-false _ _ t))

  pub after_back : (n : ℕ) → (n < length k.levels → P (with_slots (get_or k.levels n []) (with_levels (take n k.levels) k))) → (length k.levels ≤ n → P k) → P (after (back_to n k) k)
  after_back n accepted refused = after_either P (ltb n (length k.levels)) (with_slots (get_or k.levels n []) (with_levels (take n k.levels) k)) InvalidRestore k (λ t. accepted (ltb-true _ _ t)) (λ t. refused (ltb-false _ _ t))
