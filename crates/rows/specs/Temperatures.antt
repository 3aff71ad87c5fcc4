-- The temperature row: kind 54, five bytes of body.
use Rattle.std.specs.Prelude.{ℕ, Bool, ◌&&◌, List, ◌∷◌, ◌++◌, ℤ, unsigned_abs}
use Rattle.rows.specs.Fields.{low_first, signed_low_first, sign_byte}
use Rattle.rows.specs.Limits.{is_tenths, is_offset}
use Rattle.rows.specs.declared.temperature.Temperature.{Temperature}

-- both numbers are within their limits
abbrev pub is_temperature : ℤ × ℤ → Bool
is_temperature (tenths, offset) = is_tenths tenths && is_offset offset

-- the two numbers of a row
abbrev pub numbers_of : Temperature → ℤ × ℤ
numbers_of x = (x.tenths, x.offset)

-- the bytes of two numbers: the kind byte, the temperature, the offset's sign and its magnitude
abbrev pub temperature_row : ℤ × ℤ → List ℕ
temperature_row (tenths, offset) = 0x54 ∷ (signed_low_first tenths ++ (sign_byte offset ∷ low_first (unsigned_abs offset)))

-- what a row writes
abbrev pub temperature_bytes : Temperature → List ℕ
temperature_bytes x = temperature_row (numbers_of x)
