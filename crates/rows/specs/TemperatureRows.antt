-- Temperature rows and their bytes.
use Rattle.std.specs.Prelude.{◌≡◌, ℕ, ◌+◌, ◌*◌, true, List, [], ◌∷◌, length, take, drop, ℤ, Result, FitsSigned, slice_index, unsigned_abs}
use Rattle.std.proofs.Common.{ap, sym, ◌∙◌, arith, Fits, to_z}
use mathlib.Core.HLevel.{is_prop→PathP}
use Rattle.std.specs.Coded.{coded_bool}
use denote.Struct.Props.{≡_prop}
use Rattle.std.specs.Int.{w8, w16}
use Rattle.std.proofs.lemmas.List.{places, same_lists}
use Rattle.rows.specs.Fields.{sign_byte}
use Rattle.rows.specs.Limits.{is_tenths, is_offset}
use Rattle.rows.specs.Rows.{ReadsAs, is_row_long, make_answer, held_by}
use Rattle.rows.specs.Temperatures.{is_temperature, numbers_of, temperature_row, temperature_bytes}
use Rattle.rows.specs.declared.refusal.RowRefusal.{RowRefusal}
use Rattle.rows.specs.declared.temperature.Temperature.{Temperature}
use Rattle.rows.specs.Making.{made_reads}
use Rattle.rows.specs.Numbers.{tenths_fit, offset_fits, low_first_of, signed_low_first_of, same_signed, same_offset}

-- the bytes of a row fix its numbers
same_numbers : (x : Temperature) (t o : ℤ) → FitsSigned w16 t → FitsSigned w16 o → temperature_bytes x ≡ temperature_row (t, o) → (x.tenths ≡ t) × (x.offset ≡ o)
same_numbers x t o f g e = (
  same_signed x.tenths t (tenths_fit _ x.warm) f (ap (λ l. take 2 (drop 1 l)) e),
  same_offset x.offset o (offset_fits _ x.near) g (ap (λ l. slice_index l 3) e) (ap (drop 4) e),
)

-- the numbers fix the row
same_row : (x y : Temperature) → (x.tenths ≡ y.tenths) × (x.offset ≡ y.offset) → x ≡ y
same_row x y e = λ i. record {
  tenths = e.0 i;
  offset = e.1 i;
  warm = is_prop→PathP (λ j. is_tenths (e.0 j) ≡ true) (λ j. ≡_prop coded_bool _ _) x.warm y.warm i;
  near = is_prop→PathP (λ j. is_offset (e.1 j) ≡ true) (λ j. ≡_prop coded_bool _ _) x.near y.near i;
}

-- temperature rows with the same bytes are the same
pub one_temperature : (x y : Temperature) → temperature_bytes x ≡ temperature_bytes y → x ≡ y
one_temperature x y e =
    same_row x y (same_numbers x y.tenths y.offset (tenths_fit _ y.warm) (offset_fits _ y.near) e)

-- what is made of two numbers answers the reading of their bytes
pub temperature_reads : (bs : List ℕ) (t o : ℤ) (r : Result Temperature RowRefusal) → temperature_row (t, o) ≡ bs → FitsSigned w16 t → is_offset o ≡ true → held_by numbers_of r ≡ make_answer (is_temperature (t, o)) (t, o) → ReadsAs 0x54 5 temperature_bytes bs r
temperature_reads bs t o r e f g m =
    made_reads 0x54 5 numbers_of temperature_row is_temperature bs (t, o) r e (ap (λ l. is_row_long 5 (length l)) (sym e)) (ap (λ l. slice_index l 0) (sym e))
    (λ x h.
    let same = same_numbers x t o f (offset_fits o g) (h ∙ sym e) in
    let warm : is_tenths t ≡ true = ap is_tenths (sym same.0) ∙ x.warm in
    cc)
    m

-- six bytes, one by one
six : (bs : List ℕ) → length bs ≡ 6 → bs ≡ slice_index bs 0 ∷ slice_index bs 1 ∷ slice_index bs 2 ∷ slice_index bs 3 ∷ slice_index bs 4 ∷ slice_index bs 5 ∷ []
six bs h = same_lists _ _ h (λ k d l. grind (arith, places))

-- the bytes are those of the two numbers that they make
pub row_of_six : (bs : List ℕ) (t o : ℤ) (n : ℕ) → length bs ≡ 6 → slice_index bs 0 ≡ 0x54 → t ≡ to_z w16 (slice_index bs 1 + slice_index bs 2 * 256) → sign_byte o ≡ slice_index bs 3 → unsigned_abs o ≡ n → n ≡ slice_index bs 4 + slice_index bs 5 * 256 → ((i : ℕ) → Fits w8 (slice_index bs i)) → temperature_row (t, o) ≡ bs
row_of_six bs t o n long kind et es en em fits =
    let tenths = signed_low_first_of t (slice_index bs 1) (slice_index bs 2) et (omega (arith, fits 1)) (omega (arith, fits 2)) in
    let size = low_first_of (unsigned_abs o) (slice_index bs 4) (slice_index bs 5) (en ∙ em) (omega (arith, fits 4)) (omega (arith, fits 5)) in
    cc (six bs long)
