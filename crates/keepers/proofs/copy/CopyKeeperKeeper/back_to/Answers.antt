use Rattle.std.proofs.Common.{length, arith}
use Rattle.std.proofs.lemmas.Bool.Decides.{nat_tests}
use Rattle.keepers.proofs.Copying.{length_copy_levels, back_leaves}
use Rattle.keepers.proofs.Limits.{part_room}
use Rattle.keepers.proofs.copy.CopyKeeperKeeper.back_to.Goals as goal

pub returns-then-level-depth : goal.returns-then-level-depth
returns-then-level-depth c = grind (arith, nat_tests, length_copy_levels)

pub returns-clause-answer : goal.returns-clause-answer
returns-clause-answer c =
    let before = c.args.self.now in
    let left = c.write_back.new.self in
    let room = part_room c.args.level c.depth-depth.result (length before.slots.now) (length before.copies.now)
    c.if-level-depth.false c.depth-depth.ensures.room in
    let leaves = back_leaves before.slots.now left.slots.now before.copies.now left.copies.now before.bytes.now left.bytes.now
    before.opened c.depth-depth.result c.depth-depth.ensures.value c.args.level c.if-level-depth.false (cc) room (cc) (cc) in
    grind (arith, nat_tests, length_copy_levels)

pub returns-clause-state : goal.returns-clause-state
returns-clause-state c =
    let before = c.args.self.now in
    let left = c.write_back.new.self in
    let room = part_room c.args.level c.depth-depth.result (length before.slots.now) (length before.copies.now)
    c.if-level-depth.false c.depth-depth.ensures.room in
    let leaves = back_leaves before.slots.now left.slots.now before.copies.now left.copies.now before.bytes.now left.bytes.now
    before.opened c.depth-depth.result c.depth-depth.ensures.value c.args.level c.if-level-depth.false (cc) room (cc) (cc) in
    cc
