use Rattle.std.proofs.Common.{refl}
use Rattle.text_operators.specs.ObjectTexts.{no_text}
use Rattle.text_operators.proofs.object_text.no_text.Goals as goal

pub returns : goal.returns
unfolding no_text
returns c = refl
