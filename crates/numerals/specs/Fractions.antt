-- Numbers with a sign and a point, read exactly in units of a tenth, a hundredth and so on.
use Rattle.std.specs.Prelude.{ℕ, ◌*◌, ◌/◌, ◌%◌, ◌^◌, Bool, true, false, cond, not, ◌&&◌, List, [], ◌∷◌, ◌++◌, length, ℤ, pos, neg_ℤ, Some, None, Option, ◌==◌}
use Rattle.numerals.specs.Digits.{numeral_of, fitting}

-- n / 10 ^ k in units of 10 ^ -places, if that is a whole number
abbrev pub exactly : ℕ → ℕ → Option ℕ → Option ℕ
exactly places k None = None
exactly places k (Some n) = cond (n * 10 ^ places % 10 ^ k == 0) (Some (n * 10 ^ places / 10 ^ k)) None

-- a whole part and a fraction mean the number of all their digits, over ten for each digit of the fraction; the whole part
-- has at least one digit
abbrev pub units_of : ℕ → List ℕ → List ℕ → Option ℕ
units_of places [] fraction = None
units_of places (c ∷ cs) fraction = exactly places (length fraction) (numeral_of 10 ((c ∷ cs) ++ fraction))

-- what stands before the first point (2e)
abbrev pub before_point : List ℕ → List ℕ
before_point [] = []
before_point (c ∷ cs) = cond (c == 0x2e) [] (c ∷ before_point cs)

-- what stands after the first point, if there is one
abbrev pub after_point : List ℕ → Option (List ℕ)
after_point [] = None
after_point (c ∷ cs) = cond (c == 0x2e) (Some cs) (after_point cs)

-- a number with no point has no fraction; after a point there is at least one digit
abbrev pub parted : ℕ → List ℕ → Option (List ℕ) → Option ℕ
parted places whole None = units_of places whole []
parted places whole (Some []) = None
parted places whole (Some (c ∷ cs)) = units_of places whole (c ∷ cs)

-- the size of a number, which fits 31 bits
abbrev pub size_of : ℕ → List ℕ → Option ℕ
size_of places text = fitting 31 (parted places (before_point text) (after_point text))

-- so many units with a sign; minus zero is zero
abbrev pub with_sign : Bool → ℕ → ℤ
with_sign is_minus n = cond is_minus (neg_ℤ (pos n)) (pos n)

-- a size that was read, with its sign
abbrev pub signed : Bool → Option ℕ → Option ℤ
signed is_minus None = None
signed is_minus (Some n) = Some (with_sign is_minus n)

-- a number is a size, or a minus (2d) and a size
abbrev pub fixed_of : ℕ → List ℕ → Option ℤ
fixed_of places [] = None
fixed_of places (c ∷ cs) = cond (c == 0x2d) (signed true (size_of places cs)) (signed false (size_of places (c ∷ cs)))

-- every byte is the digit 0 (30)
abbrev pub are_zeros : List ℕ → Bool
are_zeros [] = true
are_zeros (c ∷ cs) = c == 0x30 && are_zeros cs

-- the whole part has a digit, and past the places there are only zeros
abbrev pub is_exact : List ℕ → List ℕ → Bool
is_exact whole past = not (length whole == 0) && are_zeros past
