-- No name has more bytes than all names together.
use Rattle.std.proofs.Common.{◌≡◌, ℕ, zero, suc, ◌+◌, ◌≤◌, List, Option, [], ◌∷◌, length, refl, arith}
use Rattle.std.specs.Prelude.{unwrap_or}
use Rattle.std.specs.List.{slice_get}
use Rattle.names.specs.Names.{bytes_in}
use Rattle.array_operators.specs.Lengths.{name_length}

abbrev bytes_at : Option (List ℕ) → ℕ
bytes_at o = length (unwrap_or o [])

one_of_all : (names : List (List ℕ)) (i : ℕ) → bytes_at (slice_get names i) ≤ bytes_in names
unfolding bytes_in
one_of_all [] i = omega arith
one_of_all (name ∷ names) zero =
    let sum : bytes_in (name ∷ names) ≡ length name + bytes_in names = refl in
    let this : bytes_at (slice_get (name ∷ names) zero) ≡ length name = refl in
    omega arith
one_of_all (name ∷ names) (suc i) =
    let sum : bytes_in (name ∷ names) ≡ length name + bytes_in names = refl in
    let this : bytes_at (slice_get (name ∷ names) (suc i)) ≡ bytes_at (slice_get names i) = refl in
    let rest = one_of_all names i in
    omega arith

pub short : (names : List (List ℕ)) (i : ℕ) → bytes_in names ≤ 8192 → name_length i names ≤ 8192
short names i all =
    let one = one_of_all names i in
    omega arith
