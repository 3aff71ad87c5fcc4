-- The limits of what a row holds.
use Rattle.std.specs.Prelude.{ℕ, Bool, true, ◌&&◌, List, [], ◌∷◌, length, ℤ, pos, negsuc, ◌==◌, int_le, nat_le}

-- a temperature in tenths of a degree Celsius: -400 to 850
abbrev pub is_tenths : ℤ → Bool
is_tenths z = int_le (negsuc 399) z && int_le z (pos 850)

-- an offset in hundredths of a millimetre: -9,999 to 9,999
abbrev pub is_offset : ℤ → Bool
is_offset z = int_le (negsuc 9998) z && int_le z (pos 9999)

-- a byte of a name: 20 to 7E
abbrev pub is_letter : ℕ → Bool
is_letter byte = nat_le 0x20 byte && nat_le byte 0x7e

-- each byte is one of a name's
abbrev pub all_letters : List ℕ → Bool
all_letters [] = true
all_letters (byte ∷ bytes) = is_letter byte && all_letters bytes

-- a name: eight of them
abbrev pub is_name : List ℕ → Bool
is_name bytes = length bytes == 8 && all_letters bytes
