-- The reflector row: kind 52, ten bytes of body.
use Rattle.std.specs.Prelude.{ℕ, Bool, ◌&&◌, ◌==◌, List, ◌∷◌, ◌++◌, ℤ}
use Rattle.std.specs.Cmp.Lexicographic.{pointwise}
use Rattle.std.specs.Ordering.{eq_of_both, int_eq, on}
use Rattle.rows.specs.Fields.{signed_low_first}
use Rattle.rows.specs.Limits.{is_name, is_offset}
use Rattle.rows.specs.declared.reflector.Reflector.{Reflector}

-- the name and the offset are within their limits
abbrev pub is_reflector : List ℕ × ℤ → Bool
is_reflector (name, offset) = is_name name && is_offset offset

-- the name and the offset of a row
abbrev pub parts_of : Reflector → List ℕ × ℤ
parts_of x = (x.name, x.offset)

-- the bytes of a name and an offset: the kind byte, the name, the offset
abbrev pub reflector_row : List ℕ × ℤ → List ℕ
reflector_row (name, offset) = 0x52 ∷ (name ++ signed_low_first offset)

-- what a row writes
abbrev pub reflector_bytes : Reflector → List ℕ
reflector_bytes x = reflector_row (parts_of x)

-- whether two rows have the same name, byte by byte, and the same offset
abbrev pub is_same_reflector : Reflector → Reflector → Bool
is_same_reflector = eq_of_both (on (λ x. x.name) (pointwise ◌==◌)) (on (λ x. x.offset) int_eq)
