-- Which frames each code allows.
use Rattle.std.specs.Prelude.{ℕ, ◌*◌, Bool, true, false, cond, ◌&&◌, ◌||◌, List, [], ◌∷◌, map, Some, None, Option, ◌==◌, nat_le}
use Rattle.std.specs.List.{range_with_len}
use Rattle.ft25h08_commands.specs.Frames.{among}
use Rattle.ft25h08_commands.specs.declared.shape.Shape.{Shape}
use Rattle.ft25h08_commands.specs.declared.shape.Shape.TheVariants.{Code, CodeRead, CodeStatus, Address, AddressRead, AddressDummyRead, AddressData}

-- the shape that goes with a code, if it is a command at all
abbrev pub shape_of : ℕ → Option Shape
shape_of c =
    cond (among c (0x06 ∷ 0x04 ∷ 0xB9 ∷ 0x60 ∷ 0xC7 ∷ 0x44 ∷ [])) (Some Code)
    (cond (among c (0x05 ∷ 0x35 ∷ 0xAB ∷ [])) (Some CodeRead)
    (cond (among c (0x01 ∷ [])) (Some CodeStatus)
    (cond (among c (0x20 ∷ 0x52 ∷ 0xD8 ∷ [])) (Some Address)
    (cond (among c (0x03 ∷ [])) (Some AddressRead)
    (cond (among c (0x0B ∷ 0x3B ∷ 0x6B ∷ 0x48 ∷ [])) (Some AddressDummyRead)
    (cond (among c (0x02 ∷ 0x32 ∷ 0x42 ∷ [])) (Some AddressData)
    None))))))

-- the 256 entries of a rule by code, in rows of 16
abbrev pub table : (ℕ → Option Shape) → List (List (Option Shape))
table rule = map (λ r. map rule (range_with_len (r * 16) 16)) (range_with_len 0 16)

-- the code is a command
abbrev pub is_listed : Option Shape → Bool
is_listed None = false
is_listed (Some shape) = true

-- a frame of n bytes and odd further bits has the shape; odd bits are allowed with reads and AB only
abbrev pub fits : Option Shape → ℕ → ℕ → Bool
fits None n odd = false
fits (Some Code) n odd = n == 1 && odd == 0
fits (Some CodeRead) n odd = nat_le 1 n
fits (Some CodeStatus) n odd = (n == 2 || n == 3) && odd == 0
fits (Some Address) n odd = n == 4 && odd == 0
fits (Some AddressRead) n odd = nat_le 4 n
fits (Some AddressDummyRead) n odd = nat_le 5 n
fits (Some AddressData) n odd = nat_le 5 n && odd == 0
