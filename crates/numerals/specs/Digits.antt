-- Digits, and the number that a row of digits means: `digitValue` and `value` are the standard library's, where a letter of
-- either case counts from ten on and any other byte is no digit of any base.
use Rattle.std.specs.Prelude.{ℕ, ◌^◌, Bool, true, cond, ◌&&◌, List, [], ◌∷◌, Some, None, Option, nat_lt}
use Rattle.std.specs.Str.Parse.{digits_value, digits_value_after}
use Rattle.std.specs.Char.{digit_value}
use Rattle.numerals.specs.declared.digits.Base.{Base}
use Rattle.numerals.specs.declared.digits.Base.TheVariants.{Decimal, Hexadecimal}

-- how many digits a base has
abbrev pub radix_of : Base → ℕ
radix_of Decimal = 10
radix_of Hexadecimal = 16

-- a byte is a digit of a base if its value is below the base
abbrev pub is_digit : ℕ → ℕ → Bool
is_digit base byte = nat_lt (digit_value byte) base

-- every byte is a digit
abbrev pub are_digits : ℕ → List ℕ → Bool
are_digits base [] = true
are_digits base (c ∷ cs) = is_digit base c && are_digits base cs

-- the number that a text means, if it is one digit or more and nothing else
abbrev pub numeral_of : ℕ → List ℕ → Option ℕ
numeral_of base [] = None
numeral_of base (c ∷ cs) = cond (are_digits base (c ∷ cs)) (Some (digits_value base (c ∷ cs))) None

-- a number that fits so many bits; a larger one is none
abbrev pub fitting : ℕ → Option ℕ → Option ℕ
fitting bits None = None
fitting bits (Some n) = cond (nat_lt n (2 ^ bits)) (Some n) None

-- a number with a row of digits after it, if they are digits and it still fits 64 bits
abbrev pub with_digits : ℕ → ℕ → List ℕ → Option ℕ
with_digits base number digits = cond (are_digits base digits) (fitting 64 (Some (digits_value_after base number digits))) None
