-- cvx cvlit xcheck cvn.
use Rattle.std.specs.Prelude.{ℕ, Bool, Ok, Result}
use Rattle.objects.specs.declared.fault.Fault.{Fault}
use Rattle.objects.specs.declared.object.Object.{Object}
use Rattle.objects.specs.declared.object.Value.TheVariants.{Name}
use Rattle.objects.specs.Objects.{truth}
use Rattle.stacks.specs.Stacked.{Stacked, replaced}
use Rattle.operators.specs.Operands.{then, operand_at, as_string}
use Rattle.operators.specs.Outcomes.{Outcome, done, go_on}
use Rattle.operators.specs.States.{State, with_operands}
use Rattle.operators.specs.Texts.{string_name, string_joined}

-- the same value with the flag set so
abbrev pub flagged : Bool → Stacked → Result Stacked Fault
flagged e s = then (operand_at 0 s) (λ o. Ok (replaced 1 (record o { executable = e }) s))

-- the flag for the object
abbrev pub flag_told : Stacked → Result Stacked Fault
flag_told s = then (operand_at 0 s) (λ o. Ok (replaced 1 (truth o.executable) s))

abbrev pub name_object : ℕ → Bool → Object
name_object n e = record { value = Name n; executable = e }

-- the top operand gives way to a name with its flag
abbrev pub named : ℕ → Bool → State → State
named n e s = with_operands (replaced 1 (name_object n e) s.operands) s

-- the name with a string's bytes, with the string's flag; the name joins the names
abbrev pub name_made : State → Outcome
name_made s =
    go_on s (operand_at 0 s.operands) (λ o. go_on s (as_string o) (λ a.
    go_on (string_joined a s) (string_name a s) (λ n.
    done (Ok (named n o.executable (string_joined a s))) s)))
