-- The numbers of a row and their bytes.
use Rattle.std.specs.Prelude.{◌≡◌, ℕ, ◌+◌, ◌*◌, ◌/◌, ◌%◌, ◌<◌, true, [], ◌∷◌, ℤ, FitsSigned, slice_index, unsigned_abs}
use Rattle.std.proofs.Common.{ap, sym, ◌∙◌, arith, of_z, to_z}
use Rattle.std.specs.Int.{w16}
use Rattle.std.proofs.lemmas.Int.{ints, of_z-to_z, to_z-of_z}
use Rattle.rows.specs.Fields.{low_first, signed_low_first, sign_byte}
use Rattle.rows.specs.Limits.{is_tenths, is_offset}

-- the limits lie within 16 bits
pub tenths_fit : (z : ℤ) → is_tenths z ≡ true → FitsSigned w16 z
tenths_fit z h = grind (arith, ints)

pub offset_fits : (z : ℤ) → is_offset z ≡ true → FitsSigned w16 z
offset_fits z h = grind (arith, ints)

-- two bytes are those of the number that they make
pub low_first_of : (n a b : ℕ) → n ≡ a + b * 256 → a < 256 → b < 256 → low_first n ≡ a ∷ b ∷ []
low_first_of n a b e f g =
    let low : n % 256 ≡ a = omega arith in
    let quotient : n / 256 ≡ b = omega arith in
    let small : b % 256 ≡ b = omega arith in
    let high : n / 256 % 256 ≡ b = ap (λ k. k % 256) quotient ∙ small in
    cc

pub signed_low_first_of : (z : ℤ) (a b : ℕ) → z ≡ to_z w16 (a + b * 256) → a < 256 → b < 256 → signed_low_first z ≡ a ∷ b ∷ []
signed_low_first_of z a b e f g = low_first_of (of_z w16 z) a b (ap (of_z w16) e ∙ of_z-to_z w16 (a + b * 256) (omega arith)) f g

-- numbers with the same bytes are the same
pub same_low_first : (m n : ℕ) → m < 65536 → n < 65536 → low_first m ≡ low_first n → m ≡ n
same_low_first m n f g e =
    let low : m % 256 ≡ n % 256 = ap (λ l. slice_index l 0) e in
    let high : m / 256 % 256 ≡ n / 256 % 256 = ap (λ l. slice_index l 1) e in
    omega arith

pub same_bits : (y z : ℤ) → FitsSigned w16 y → FitsSigned w16 z → of_z w16 y ≡ of_z w16 z → y ≡ z
same_bits y z f g e = sym (to_z-of_z w16 y f) ∙ ap (to_z w16) e ∙ to_z-of_z w16 z g

pub same_signed : (y z : ℤ) → FitsSigned w16 y → FitsSigned w16 z → signed_low_first y ≡ signed_low_first z → y ≡ z
same_signed y z f g e = same_bits y z f g (same_low_first (of_z w16 y) (of_z w16 z) (omega (arith, ints)) (omega (arith, ints)) e)

pub same_offset : (y z : ℤ) → FitsSigned w16 y → FitsSigned w16 z → sign_byte y ≡ sign_byte z → low_first (unsigned_abs y) ≡ low_first (unsigned_abs z) → y ≡ z
same_offset y z f g s e =
    let same : unsigned_abs y ≡ unsigned_abs z = same_low_first (unsigned_abs y) (unsigned_abs z) (omega (arith, ints)) (omega (arith, ints)) e in
    grind (arith, ints)
