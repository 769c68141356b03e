use Rattle.std.proofs.Common.{◌≡◌, ◌+◌, ◌-◌, ◌≤◌}
use Rattle.array_operators.specs.Stores.{stored}
use Rattle.array_operators.proofs.store.store_operands.Given as goal

-- what is left to store gives what all gives
abbrev pub invariant-loop-at : goal.invariant-loop-at
invariant-loop-at g l =
    let places = l.at-iterator.a in
    let left = l.at-iterator.b.iter in
    record {
      slots : stored l.above places.start (places.end - places.start) l.operands.objects l.memory ≡ stored l.above l.start l.len l.operands.objects l.initial.memory;
      lowest : left.start ≡ l.above;
      ordered : places.start ≤ places.end;
      as_many : left.end ≡ l.above + (places.end - places.start);
    }
