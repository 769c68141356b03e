-- Runs of regular characters.
use Rattle.std.specs.Prelude.{ℕ, cond, List, [], ◌∷◌, ◌++◌, length, Some, None, Option, nat_le, nat_lt}
use Rattle.scanner.specs.Bytes.{ends_run}

-- the longest run that the bytes begin with
unfoldable pub run_of : List ℕ → List ℕ
run_of [] = []
run_of (b ∷ bs) = cond (ends_run b) [] (b ∷ run_of bs)

-- what comes after it
unfoldable pub past_run : List ℕ → List ℕ
past_run [] = []
past_run (b ∷ bs) = cond (ends_run b) (b ∷ bs) (past_run bs)

-- a run of at most 128 bytes is a token; none stands for a longer one
abbrev pub within_limit : List ℕ → Option (List ℕ)
within_limit bs = cond (nat_le (length bs) 128) (Some bs) None

-- one more byte of a run, and all the bytes of a run, byte by byte
abbrev pub gather : Option (List ℕ) → ℕ → Option (List ℕ)
gather None b = None
gather (Some bs) b = cond (nat_lt (length bs) 128) (Some (bs ++ b ∷ [])) None

unfoldable pub gathered : Option (List ℕ) → List ℕ → Option (List ℕ)
gathered o [] = o
gathered o (b ∷ bs) = gathered (gather o b) bs
