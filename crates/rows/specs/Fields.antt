-- The numbers in a row's body, as bytes.
use Rattle.std.specs.Prelude.{◌≡◌, ℕ, ◌/◌, ◌%◌, true, List, [], ◌∷◌, ℤ, pos, negsuc, Ok, Err, Result, ◌≢◌, unsigned_abs}
use Rattle.std.specs.Int.{w16}
use Rattle.std.proofs.Common.{of_z}
use Rattle.rows.specs.declared.refusal.RowRefusal.{RowRefusal}
use Rattle.rows.specs.declared.refusal.RowRefusal.TheVariants.{NoRow}
use Rattle.rows.specs.Limits.{is_offset}

-- a number of 16 bits, low byte first
abbrev pub low_first : ℕ → List ℕ
low_first n = (n % 256) ∷ (n / 256 % 256) ∷ []

-- a signed number of 16 bits, low byte first: a negative one as 65,536 more
abbrev pub signed_low_first : ℤ → List ℕ
signed_low_first z = low_first (of_z w16 z)

-- the sign byte: 00 for plus, and for zero, FF for minus
abbrev pub sign_byte : ℤ → ℕ
sign_byte (pos n) = 0x00
sign_byte (negsuc n) = 0xff

-- what a sign byte and a magnitude stand for: the offset that has them, if there is one within the limits
abbrev pub OffsetFrom : ℕ → ℕ → Result ℤ RowRefusal → Type 0
OffsetFrom sign magnitude (Ok z) = (is_offset z ≡ true) × (sign_byte z ≡ sign) × (unsigned_abs z ≡ magnitude)
OffsetFrom sign magnitude (Err e) = (e ≡ NoRow) × ((z : ℤ) → is_offset z ≡ true → sign_byte z ≡ sign → unsigned_abs z ≢ magnitude)
