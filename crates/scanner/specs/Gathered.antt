-- What the buffer of a run holds.
use Rattle.std.specs.Prelude.{ℕ, List, take, Option}
use Rattle.std.specs.Option.{option_map, unwrap_or}
use Rattle.scanner.specs.declared.run.Run.{Run}

-- the run so far, or none where it is too long
abbrev pub so_far : Run → Option (List ℕ)
so_far r = option_map (λ n. take n r.bytes) r.used

-- its bytes; where it is too long, those that there was room for
abbrev pub kept : Run → List ℕ
kept r = take (unwrap_or r.used 128) r.bytes
