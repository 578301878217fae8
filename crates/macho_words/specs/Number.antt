-- The number that a word writes.
use Rattle.std.specs.Prelude.{ℕ, Bool, List, length, drop, Option, Some, None, ◌^◌, ◌&&◌, nat_lt, nat_le, nat_eq, if◌then◌else◌, codes}
use Rattle.std.specs.List.{list_all, starts_with}
use Rattle.std.specs.Char.{digit_value}
use Rattle.std.specs.Str.Parse.{digits_value}

-- the byte is a digit of this base, a letter in either case
abbrev pub is_digit : ℕ → ℕ → Bool
is_digit base byte = nat_lt (digit_value byte) base

-- one digit of this base or more, at most `most`, whose number 64 bits hold
abbrev pub is_numeral : ℕ → ℕ → List ℕ → Bool
is_numeral base most digits = nat_lt 0 (length digits) && nat_le (length digits) most
    && list_all (is_digit base) digits && nat_lt (digits_value base digits) (2 ^ 64)

abbrev pub number_in : ℕ → ℕ → List ℕ → Option ℕ
number_in base most digits =
    if is_numeral base most digits then Some (digits_value base digits) else None

-- the number of a word, in hexadecimal digits after `0x`, and otherwise in decimal digits
abbrev pub word_number : List ℕ → Option ℕ
word_number word = if starts_with nat_eq word (codes "0x") then number_in 16 16 (drop 2 word)
    else number_in 10 20 word
