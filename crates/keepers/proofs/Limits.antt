-- What the limit of levels gives: room for the parts of all levels below it.
use Rattle.std.proofs.Common.{◌≡◌, ℕ, ◌+◌, ◌*◌, ◌/◌, ◌<◌, ◌≤◌, min, eqb, sym, subst, le_trans, mul-le-mul_right, add-mul, zero-mul, div-mul-le_self, arith}
use Rattle.std.proofs.lemmas.Bool.{cond_both}
use Rattle.keepers.specs.Kept.{level_limit}

pub limit_most : (slots second : ℕ) → level_limit slots second ≤ 15
limit_most slots second = cond_both (eqb slots 0) 0 (min 15 (second / slots)) (λ l. l ≤ 15) (λ _. omega arith) (λ _. omega arith)

pub limit_room : (slots second : ℕ) → level_limit slots second * slots ≤ second
limit_room slots second =
    cond_both (eqb slots 0) 0 (min 15 (second / slots)) (λ l. l * slots ≤ second) (λ _. omega (arith, zero-mul slots))
    (λ _.
    let few : min 15 (second / slots) ≤ second / slots = omega arith in
    le_trans (mul-le-mul_right slots few) (div-mul-le_self second slots))

-- the part of a level lies in a second memory that has room for as many levels as the limit
pub part_room : (d limit slots second : ℕ) → d < limit → limit * slots ≤ second → d * slots + slots ≤ second
part_room d limit slots second h room =
    let more : (d + 1) * slots ≤ limit * slots = mul-le-mul_right slots (omega arith) in
    omega (arith, add-mul d 1 slots)

pub part_fits : (slots second limit d : ℕ) → limit ≡ level_limit slots second → d < limit → d * slots + slots ≤ second
part_fits slots second limit d e h =
    part_room d limit slots second h (subst (λ (l : ℕ). l * slots ≤ second) (sym e) (limit_room slots second))
