use Rattle.scanner.proofs.Same.{element_decides, token_decides, place_decides, ending_decides}
use Rattle.scanner.proofs.equality.equality_decides.Goals as goal

pub returns : goal.returns
returns c = record { elements = element_decides; tokens = token_decides; places = place_decides; endings = ending_decides }
