use Rattle.std.proofs.Common.{◌≡◌, ◌+◌, ◌-◌, ◌++◌, length, take}
use Rattle.operators.specs.Texts.{bytes_from, text_of}
use Rattle.operators.proofs.text.gathered.Given as goal

-- what is read and what is left to read give the text
abbrev pub invariant-loop-i : goal.invariant-loop-i
invariant-loop-i g l =
    (take l.i l.buffer ++ bytes_from (l.string.start + l.i) (l.string.len - l.i) l.initial.memory ≡ text_of l.string l.initial.memory) × (length l.buffer ≡ 128)
