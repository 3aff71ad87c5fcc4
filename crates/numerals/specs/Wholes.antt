-- Whole numbers and addresses as they are typed.
use Rattle.std.specs.Prelude.{ℕ, Bool, false, cond, ◌&&◌, List, [], ◌∷◌, drop, Option, ◌==◌}
use Rattle.numerals.specs.Digits.{numeral_of, fitting}

-- a whole number is decimal, and fits 64 bits
abbrev pub whole_of : List ℕ → Option ℕ
whole_of text = fitting 64 (numeral_of 10 text)

-- the text begins with `0x` (30 78)
abbrev pub is_marked : List ℕ → Bool
is_marked [] = false
is_marked (a ∷ []) = false
is_marked (a ∷ b ∷ rest) = a == 0x30 && b == 0x78

-- an address is hexadecimal after `0x`, decimal otherwise, and fits 64 bits
abbrev pub address_of : List ℕ → Option ℕ
address_of text = cond (is_marked text) (fitting 64 (numeral_of 16 (drop 2 text))) (whole_of text)
