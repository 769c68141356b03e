-- A call that may be refused, as one definition: the state that it gives, or the refusal.
use Rattle.std.specs.Prelude.{Ok, Err, Result}

-- the state afterwards: a refusal leaves the old one
abbrev pub after : {M F : Type 0} → Result M F → M → M
after (Ok m) old = m
after (Err f) old = old

-- what the caller hears: x where it was accepted
abbrev pub answered : {M X F : Type 0} → Result M F → X → Result X F
answered (Ok m) x = Ok x
answered (Err f) x = Err f

abbrev pub heard : {M F : Type 0} → Result M F → Result (Unit {0}) F
heard r = answered r tt
