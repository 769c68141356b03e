-- The classes of bytes.
use Rattle.std.specs.Prelude.{ℕ, Bool, ◌||◌, ◌==◌}

abbrev pub white : ℕ → Bool
white b = b == 0 || (b == 9 || (b == 10 || (b == 12 || (b == 13 || b == 32))))

-- ( ) < > [ ] { } / %
abbrev pub delimiter : ℕ → Bool
delimiter b = b == 40 || (b == 41 || (b == 60 || (b == 62 || (b == 91 || (b == 93 || (b == 123 || (b == 125 || (b == 47 || b == 37))))))))

-- a run of regular characters ends before such a byte
unfoldable pub ends_run : ℕ → Bool
ends_run b = white b || delimiter b

abbrev pub ends_comment : ℕ → Bool
ends_comment b = b == 10 || (b == 12 || b == 13)
