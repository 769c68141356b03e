-- A string's bytes, read one after the other.
use Rattle.std.proofs.Common.{◌≡◌, ℕ, suc, ◌+◌, ◌-◌, ◌<◌, List, [], ◌∷◌, ◌++◌, length, take, set, sym, refl, ap, ◌∙◌, arith}
use Rattle.std.proofs.lemmas.List.{append-nil, append_assoc, take_more_set}
use Rattle.memory.specs.Memories.{InUse}
use Rattle.operators.specs.Texts.{byte_in, bytes_from}

bytes_suc : (at n : ℕ) (m : InUse) → bytes_from at (suc n) m ≡ byte_in m at ∷ bytes_from (at + 1) n m
unfolding bytes_from
bytes_suc at n m = refl

bytes_zero : (at : ℕ) (m : InUse) → bytes_from at 0 m ≡ []
unfolding bytes_from
bytes_zero at m = refl

-- what is left to read, once one more is read
pub bytes_more : (at n i : ℕ) (m : InUse) (xs : List ℕ) → i < n → i < length xs → take (i + 1) (set xs i (byte_in m (at + i))) ++ bytes_from (at + (i + 1)) (n - (i + 1)) m ≡ take i xs ++ bytes_from (at + i) (n - i) m
bytes_more at n i m xs h room =
    let one : n - i ≡ suc (n - (i + 1)) = omega arith in
    let next : at + i + 1 ≡ at + (i + 1) = omega arith in
    let b = byte_in m (at + i) in
    let rest = bytes_from (at + (i + 1)) (n - (i + 1)) m in
    let here : bytes_from (at + i) (n - i) m ≡ b ∷ rest =
    ap (λ k. bytes_from (at + i) k m) one ∙ bytes_suc (at + i) (n - (i + 1)) m ∙ ap (λ a. b ∷ bytes_from a (n - (i + 1)) m) next in
    ap (λ l. l ++ rest) (take_more_set xs i b room) ∙ append_assoc (take i xs) (b ∷ []) rest ∙ sym (ap (λ l. take i xs ++ l) here)

pub bytes_none : (at n i : ℕ) (m : InUse) (xs : List ℕ) → i ≡ n → take i xs ++ bytes_from at (n - i) m ≡ take n xs
bytes_none at n i m xs h =
    let none : n - i ≡ 0 = omega arith in
    ap (λ k. take i xs ++ bytes_from at k m) none ∙ ap (λ l. take i xs ++ l) (bytes_zero at m) ∙ append-nil (take i xs) ∙ ap (λ k. take k xs) h
