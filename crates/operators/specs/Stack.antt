-- pop exch dup copy index roll clear count mark cleartomark counttomark.
use Rattle.std.specs.Prelude.{ℕ, ◌+◌, cond, length, ℤ, pos, Ok, Err, Option, Result, ok_or, nat_le, unsigned_abs}
use Rattle.std.specs.List.{slice_get}
use Rattle.std.specs.Int.{int_rem_euclid}
use Rattle.objects.specs.Objects.{literal, integer}
use Rattle.objects.specs.declared.fault.Fault.{Fault}
use Rattle.objects.specs.declared.fault.Fault.TheVariants.{RangeCheck, UnmatchedMark}
use Rattle.objects.specs.declared.object.Object.{Object}
use Rattle.objects.specs.declared.object.Value.TheVariants.{Mark}
use Rattle.stacks.specs.Stacked.{Stacked, pushed, discarded, replaced, copied_top, rolled, count_to_mark}
use Rattle.operators.specs.Operands.{then, at_least, two_integers, natural, natural_at}

abbrev pub popped : Stacked → Result Stacked Fault
popped s = then (at_least 1 s) (λ _. Ok (discarded 1 s))

abbrev pub exchanged : Stacked → Result Stacked Fault
exchanged s = then (at_least 2 s) (λ _. Ok (rolled 2 1 s))

abbrev pub duplicated : Stacked → Result Stacked Fault
duplicated s = then (at_least 1 s) (λ _. copied_top 1 s)

-- n goes, and the n below it are there once more
abbrev pub copied : Stacked → Result Stacked Fault
copied s = then (natural_at 0 s) (λ n. copied_top n (discarded 1 s))

abbrev found : Option Object → Result Object Fault
found o = ok_or o RangeCheck

-- n gives way to the n-th of those below it
abbrev pub indexed : Stacked → Result Stacked Fault
indexed s = then (natural_at 0 s) (λ n. then (found (slice_get s.objects (n + 1))) (λ o. Ok (replaced 1 o s)))

-- a positive j moves the top down into the group, a negative one up, as often as n goes round
abbrev pub turns : ℤ → ℤ → ℕ
turns n j = unsigned_abs (int_rem_euclid j n)

abbrev pub rolled_by : Stacked → Result Stacked Fault
rolled_by s = then (two_integers s) (λ p. then (natural p.0) (λ n. cond (nat_le (n + 2) (length s.objects)) (Ok (rolled n (turns p.0 p.1) (discarded 2 s))) (Err RangeCheck)))

abbrev pub counted : Stacked → Result Stacked Fault
counted s = pushed (integer (pos (length s.objects))) s

abbrev pub mark : Object
mark = literal Mark

abbrev or_unmatched : Option ℕ → Result ℕ Fault
or_unmatched n = ok_or n UnmatchedMark

abbrev pub cleared_to_mark : Stacked → Result Stacked Fault
cleared_to_mark s = then (or_unmatched (count_to_mark s)) (λ n. Ok (discarded (n + 1) s))

abbrev pub counted_to_mark : Stacked → Result Stacked Fault
counted_to_mark s = then (or_unmatched (count_to_mark s)) (λ n. pushed (integer (pos n)) s)
