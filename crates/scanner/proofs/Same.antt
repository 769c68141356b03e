-- What == answers decides whether two values are the same, at each type that has it.
use Rattle.std.proofs.Common.{◌≡◌, Bool, Decides, refl, ap}
use Rattle.std.proofs.lemmas.Bool.{false≢true}
use Rattle.std.specs.Cmp.{unsigned_Decides}
use Rattle.objects.proofs.Same.{over, three, object_decides, span_decides}
use Rattle.scanner.specs.contracts.element.ElementPartialEq.TheImpl as of_element
use Rattle.scanner.specs.contracts.place.PlacePartialEq.TheImpl as of_place
use Rattle.scanner.specs.contracts.source.EndingPartialEq.TheImpl as of_ending
use Rattle.scanner.specs.contracts.token.TokenPartialEq.TheImpl as of_token
use Rattle.scanner.specs.declared.element.Element.{Element}
use Rattle.scanner.specs.declared.element.Element.TheVariants as element
use Rattle.scanner.specs.declared.place.Place.{Place}
use Rattle.scanner.specs.declared.source.Ending.{Ending}
use Rattle.scanner.specs.declared.source.Ending.TheVariants.{Ended}
use Rattle.scanner.specs.declared.token.Token.{Token}

abbrev eq_of_element : Element → Element → Bool
eq_of_element = of_element.ghosts.eq

pub element_decides : (a b : Element) → Decides (eq_of_element a b) (a ≡ b)
element_decides (element.Object o) (element.Object p) = over element.Object o p _ (λ e. cc) (object_decides o p)
element_decides (element.String a) (element.String b) = over element.String a b _ (λ e. cc) (span_decides a b)
element_decides (element.Procedure a) (element.Procedure b) = over element.Procedure a b _ (λ e. cc) (span_decides a b)
element_decides a b = (λ t. absurd (false≢true t), λ e. cc)

abbrev eq_of_token : Token → Token → Bool
eq_of_token = of_token.ghosts.eq

pub token_decides : (a b : Token) → Decides (eq_of_token a b) (a ≡ b)
token_decides a b =
    three a b _ _ _ (λ p q r i. record { element = p i; slots = q i; bytes = r i }) (ap (λ x. x.element)) (ap (λ x. x.slots)) (ap (λ x. x.bytes))
    (element_decides a.element b.element) (unsigned_Decides a.slots b.slots) (unsigned_Decides a.bytes b.bytes)

abbrev eq_of_place : Place → Place → Bool
eq_of_place = of_place.ghosts.eq

pub place_decides : (a b : Place) → Decides (eq_of_place a b) (a ≡ b)
place_decides a b =
    let d = unsigned_Decides a.taken b.taken in
    (λ t. let p : a.taken ≡ b.taken = d.0 t in λ i. record { taken = p i }, λ e. d.1 (ap (λ x. x.taken) e))

abbrev eq_of_ending : Ending → Ending → Bool
eq_of_ending = of_ending.ghosts.eq

pub ending_decides : (a b : Ending) → Decides (eq_of_ending a b) (a ≡ b)
ending_decides Ended Ended = (λ t. refl, λ e. refl)
