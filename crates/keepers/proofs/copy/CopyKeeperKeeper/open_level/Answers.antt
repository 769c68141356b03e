use Rattle.std.proofs.Common.{length, arith}
use Rattle.std.proofs.lemmas.Bool.Decides.{nat_tests}
use Rattle.keepers.proofs.Copying.{length_copy_levels, open_leaves}
use Rattle.keepers.proofs.Limits.{part_room}
use Rattle.keepers.proofs.copy.CopyKeeperKeeper.open_level.Goals as goal

pub returns-then-depth-limit : goal.returns-then-depth-limit
returns-then-depth-limit c = grind (arith, nat_tests, length_copy_levels)

pub copy_slots-requires : goal.copy_slots-requires
copy_slots-requires c =
    let before = c.args.self.now in
    let room = part_room c.depth-depth.result c.limit-limit.result (length before.slots.now) (length before.copies.now)
    c.if-depth-limit.false c.limit-limit.ensures.room in
    omega arith

pub returns : goal.returns
returns c =
    let before = c.args.self.now in
    let left = c.copy_slots.new.self in
    let room = part_room c.depth-depth.result c.limit-limit.result (length before.slots.now) (length before.copies.now)
    c.if-depth-limit.false c.limit-limit.ensures.room in
    let leaves = open_leaves before.slots.now left.slots.now before.copies.now left.copies.now before.bytes.now left.bytes.now
    before.opened c.depth-depth.result c.depth-depth.ensures.value (omega arith) room (cc) (cc) (cc) in
    record { answer = grind (arith, nat_tests, length_copy_levels); state = cc }
