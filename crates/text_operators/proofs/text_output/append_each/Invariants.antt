use Rattle.std.proofs.Common.{◌≡◌, ◌++◌}
use Rattle.text_operators.specs.Texts.{bytes_of, rest}
use Rattle.text_operators.proofs.text_output.append_each.Given as goal

-- what is out and what is left are what was out and the text
abbrev pub invariant-loop-byte : goal.invariant-loop-byte
invariant-loop-byte g l = l.output ++ rest l.byte-iterator ≡ l.initial.output ++ bytes_of l.fn.text l.fn.memory
