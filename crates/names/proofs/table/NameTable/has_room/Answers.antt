use Rattle.std.proofs.Common.{◌∙◌, arith}
use Rattle.std.proofs.lemmas.Bool.Decides.{nat_tests}
use Rattle.names.proofs.Tables.{room_is, names_many}
use Rattle.names.proofs.table.NameTable.has_room.Goals.{then-len-lt-MOST_NAMES, else-len-lt-MOST_NAMES}
use Rattle.names.proofs.table.NameTable.has_room.Goals as goal

pub returns-then-text-le-LONGEST_NAME : goal.returns-then-text-le-LONGEST_NAME
returns-then-text-le-LONGEST_NAME c =
    room_is _ _ _ _ _ c.self.invariant c.self.view_is c.args.text.now (omega (arith, c.if-text-le-LONGEST_NAME.true.0)) (omega (arith, c.if-text-le-LONGEST_NAME.true.1))

pub returns-else-text-le-LONGEST_NAME : goal.returns-else-text-le-LONGEST_NAME
returns-else-text-le-LONGEST_NAME c =
    let all = names_many _ _ _ _ _ c.self.invariant c.self.view_is in
    elim c.if-len-lt-MOST_NAMES.branch [
      | then-len-lt-MOST_NAMES w ↦ w.t-4-is ∙ grind (arith, nat_tests)
      | else-len-lt-MOST_NAMES w ↦ w.t-4-is ∙ grind (arith, nat_tests)
    ]
