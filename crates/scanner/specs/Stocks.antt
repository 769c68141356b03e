-- The procedures of a token while it is read.
use Rattle.std.specs.Prelude.{ℕ, ◌+◌, ◌-◌, cond, List, [], ◌∷◌, ◌++◌, reverse, length, take, drop, Some, None, Ok, Err, Option, Result, nat_lt}
use Rattle.std.specs.declared.ops.ControlFlow.{ControlFlow}
use Rattle.std.specs.declared.ops.ControlFlow.TheVariants.{Continue, Break}
use Rattle.objects.specs.declared.fault.Fault.{Fault}
use Rattle.objects.specs.declared.fault.Fault.TheVariants.{SyntaxError, LimitCheck}
use Rattle.scanner.specs.declared.element.Element.{Element}
use Rattle.scanner.specs.declared.element.Element.TheVariants.{Procedure}
use Rattle.scanner.specs.declared.stock.Stock.{Stock}
use Rattle.scanner.specs.declared.tally.Tally.{Tally}

-- the elements of the closed procedures, in the order of their closing braces; those of each open one, the innermost first; and how many elements there are in all
pub record Procedures : Type 0 where
  pub shut : List Element
  pub pending : List (List Element)
  pub count : ℕ

-- what a piece leads to: more of the token is to come, or it is complete, or the text ended before it, or it fails
pub data Outcome : Type 0 where
  going : Procedures → Outcome
  complete : Element → Procedures → Outcome
  last : Outcome
  failed : Fault → Outcome

-- a procedure begins: at most 16 are open at a time
abbrev pub opened : Procedures → Outcome
opened p = cond (nat_lt (length p.pending) 16) (going (record p { pending = [] ∷ p.pending })) (failed LimitCheck)

-- an element ends: outside of procedures it is the whole token, and else it is one of at most 512 elements
abbrev pub joined_to : Element → List Element → ℕ → List (List Element) → Outcome
joined_to e shut count [] = complete e (record { shut = shut; pending = []; count = count })
joined_to e shut count (es ∷ outer) = cond (nat_lt count 512) (going (record { shut = shut; pending = (es ++ e ∷ []) ∷ outer; count = count + 1 })) (failed LimitCheck)

abbrev pub ended_element : Element → Procedures → Outcome
ended_element e p = joined_to e p.shut p.count p.pending

-- a procedure ends, and is an element of the one around it
abbrev pub closed_over : List Element → ℕ → List (List Element) → Outcome
closed_over shut count [] = failed SyntaxError
closed_over shut count (es ∷ outer) = joined_to (Procedure (record { start = length shut; len = length es })) (shut ++ es) count outer

abbrev pub closed : Procedures → Outcome
closed p = closed_over p.shut p.count p.pending

-- the text ends, which it may between tokens
abbrev pub finished_in : List (List Element) → Outcome
finished_in [] = last
finished_in (es ∷ outer) = failed SyntaxError

abbrev pub finished : Procedures → Outcome
finished p = finished_in p.pending

-- What the stock stands for. The elements of the open procedures lie one behind the other, and the sizes tell them apart.
unfoldable pub levels : List ℕ → List Element → List (List Element)
levels [] es = []
levels (n ∷ ns) es = drop (length es - n) es ∷ levels ns (take (length es - n) es)

abbrev pub procedures : Stock → Tally → Procedures
procedures s t = record {
  shut = take t.done s.done;
  pending = levels (reverse (take t.depth s.sizes)) (take t.pending s.pending);
  count = t.done + t.pending;
}

-- what a piece leads to, as the code answers it
abbrev pub Progress : Type 0
Progress = ControlFlow (Option Element) Unit

-- what is answered and left
abbrev pub heard : Stock → Tally → Result Progress Fault → Outcome
heard s t (Ok (Continue u)) = going (procedures s t)
heard s t (Ok (Break (Some e))) = complete e (procedures s t)
heard s t (Ok (Break None)) = last
heard s t (Err f) = failed f
