use Rattle.keepers.proofs.Copying.{set_in_part}
use Rattle.keepers.proofs.copy.copy_one.Goals as goal

pub returns : goal.returns
returns c =
    let whole = set_in_part c.args.copies.now c.store.new.places c.args.from c.args.at c.args.object c.requires (cc) in
    cc
