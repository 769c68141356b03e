-- Integers as text: what is written of one, and what is read from bytes.
use Rattle.std.specs.Prelude.{ℕ, ◌+◌, ◌-◌, ◌*◌, ◌^◌, Bool, true, false, cond, List, [], ◌∷◌, ℤ, pos, negsuc, neg_ℤ, Some, None, Ok, Err, Option, Result, ◌==◌, nat_lt}
use Rattle.std.specs.Fmt.{signed_decimal}
use Rattle.std.specs.Str.{all_ascii_digits}
use Rattle.objects.specs.declared.decimal_text.DecimalText.{DecimalText}
use Rattle.objects.specs.declared.integer.IntegerError.{IntegerError}
use Rattle.objects.specs.declared.integer.IntegerError.TheVariants.{NotInteger, OutOfRange}

-- the digits without a leading zero, and before them a minus sign below zero
abbrev pub integer_text : ℤ → List ℕ
integer_text = signed_decimal

abbrev pub written : DecimalText → List ℕ
written d = d.text.bytes

-- the number that digits write, after the number read so far
unfoldable pub number_after : ℕ → List ℕ → ℕ
number_after n [] = n
number_after n (c ∷ cs) = number_after (n * 10 + (c - 48)) cs

-- one digit or more, and nothing else
abbrev pub is_number : List ℕ → Bool
is_number [] = false
is_number (c ∷ cs) = all_ascii_digits (c ∷ cs)

abbrev pub number_read : List ℕ → Option ℕ
number_read text = cond (is_number text) (Some (number_after 0 text)) None

-- 32 bits with a sign hold it
abbrev pub fits : ℤ → Bool
fits (pos n) = nat_lt n (2 ^ 31)
fits (negsuc n) = nat_lt n (2 ^ 31)

abbrev pub held : ℤ → Result ℤ IntegerError
held z = cond (fits z) (Ok z) (Err OutOfRange)

-- the number below zero or not, if there is a number
abbrev pub with_sign : Bool → Option ℕ → Result ℤ IntegerError
with_sign negative None = Err NotInteger
with_sign negative (Some n) = held (cond negative (neg_ℤ (pos n)) (pos n))

-- an integer is digits, and before them perhaps a minus (45) or a plus (43) sign
unfoldable pub integer_read : List ℕ → Result ℤ IntegerError
integer_read [] = Err NotInteger
integer_read (c ∷ cs) = cond (c == 45) (with_sign true (number_read cs)) (cond (c == 43) (with_sign false (number_read cs)) (with_sign false (number_read (c ∷ cs))))
