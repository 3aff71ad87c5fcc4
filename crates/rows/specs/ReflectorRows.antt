-- Reflector rows and their bytes.
use Rattle.std.specs.Prelude.{◌≡◌, ◌↔◌, ℕ, ◌+◌, ◌*◌, Bool, true, ◌==◌, IsTrue, List, [], ◌∷◌, ◌++◌, length, take, drop, ℤ, Result, FitsSigned, slice_index}
use Rattle.std.proofs.Common.{ap, sym, refl, ◌∙◌, arith, rules, Fits, to_z}
use mathlib.Core.HLevel.{is_prop→PathP}
use Rattle.std.specs.Coded.{coded_bool}
use denote.Struct.Props.{≡_prop}
use Rattle.std.specs.Int.{w8, w16}
use Rattle.std.proofs.lemmas.List.{drop_at, places, same_lists, take_at}
use Rattle.std.specs.Cmp.Lexicographic.{pointwise}
use Rattle.std.proofs.lemmas.Bool.{and_parts, and_from}
use Rattle.std.proofs.lemmas.Bool.Decides.{Decides-eqb, Decides-int_eq, nat_tests}
use Rattle.std.proofs.lemmas.Slice.Eq.{slice_eq-Decides}
use Rattle.rows.specs.Fields.{signed_low_first}
use Rattle.rows.specs.Limits.{is_name, is_offset}
use Rattle.rows.specs.Reflectors.{is_reflector, parts_of, reflector_row, reflector_bytes, is_same_reflector}
use Rattle.rows.specs.Rows.{ReadsAs, is_row_long, make_answer, held_by}
use Rattle.rows.specs.declared.reflector.Reflector.{Reflector}
use Rattle.rows.specs.declared.refusal.RowRefusal.{RowRefusal}
use Rattle.rows.specs.Making.{made_reads}
use Rattle.rows.specs.Numbers.{offset_fits, signed_low_first_of, same_signed}

-- a name has eight bytes
pub name_long : (name : List ℕ) → is_name name ≡ true → length name ≡ 8
name_long name h = grind (arith, nat_tests)

-- the bytes of a row fix its name and its offset
same_parts : (x : Reflector) (name : List ℕ) (o : ℤ) → length name ≡ 8 → FitsSigned w16 o → reflector_bytes x ≡ reflector_row (name, o) → (x.name ≡ name) × (x.offset ≡ o)
same_parts x name o long f e =
    let eight = name_long x.name x.spelt in
    let rest : x.name ++ signed_low_first x.offset ≡ name ++ signed_low_first o = ap (drop 1) e in (
      sym (take_at x.name _ 8 eight) ∙ ap (take 8) rest ∙ take_at name _ 8 long,
      same_signed x.offset o (offset_fits _ x.near) f (sym (drop_at x.name _ 8 eight) ∙ ap (drop 8) rest ∙ drop_at name _ 8 long),
    )

-- the name and the offset fix the row
pub same_row : (x y : Reflector) → (x.name ≡ y.name) × (x.offset ≡ y.offset) → x ≡ y
same_row x y e = λ i. record {
  name = e.0 i;
  offset = e.1 i;
  spelt = is_prop→PathP (λ j. is_name (e.0 j) ≡ true) (λ j. ≡_prop coded_bool _ _) x.spelt y.spelt i;
  near = is_prop→PathP (λ j. is_offset (e.1 j) ≡ true) (λ j. ≡_prop coded_bool _ _) x.near y.near i;
}

-- reflector rows with the same bytes are the same
pub one_reflector : (x y : Reflector) → reflector_bytes x ≡ reflector_bytes y → x ≡ y
one_reflector x y e =
    same_row x y (same_parts x y.name y.offset (name_long _ y.spelt) (offset_fits _ y.near) e)

-- what is made of a name and an offset answers the reading of their bytes
pub reflector_reads : (bs name : List ℕ) (o : ℤ) (r : Result Reflector RowRefusal) → reflector_row (name, o) ≡ bs → length bs ≡ 11 → length name ≡ 8 → FitsSigned w16 o → held_by parts_of r ≡ make_answer (is_reflector (name, o)) (name, o) → ReadsAs 0x52 10 reflector_bytes bs r
reflector_reads bs name o r e long eight f m =
    made_reads 0x52 10 parts_of reflector_row is_reflector bs (name, o) r e (ap (is_row_long 10) long) (ap (λ l. slice_index l 0) (sym e))
    (λ x h.
    let same = same_parts x name o eight f (h ∙ sym e) in
    let spelt : is_name name ≡ true = ap is_name (sym same.0) ∙ x.spelt in
    let near : is_offset o ≡ true = ap is_offset (sym same.1) ∙ x.near in
    cc)
    m

-- a name, byte by byte
eight : (name : List ℕ) → is_name name ≡ true → name ≡ slice_index name 0 ∷ slice_index name 1 ∷ slice_index name 2 ∷ slice_index name 3 ∷ slice_index name 4 ∷ slice_index name 5 ∷ slice_index name 6 ∷ slice_index name 7 ∷ []
eight name h =
    let long = name_long name h in
    same_lists _ _ long (λ k d l. grind (arith, places))

-- the bytes of a name and those of an offset, one after the other, are the row
pub row_by_bytes : (name two : List ℕ) (o : ℤ) → is_name name ≡ true → two ≡ signed_low_first o → 0x52 ∷ slice_index name 0 ∷ slice_index name 1 ∷ slice_index name 2 ∷ slice_index name 3 ∷ slice_index name 4 ∷ slice_index name 5 ∷ slice_index name 6 ∷ slice_index name 7 ∷ slice_index two 0 ∷ slice_index two 1 ∷ [] ≡ reflector_row (name, o)
row_by_bytes name two o h e = rw e (ap (λ l. 0x52 ∷ (l ++ signed_low_first o)) (sym (eight name h)))

-- eleven bytes: the kind, the name, the offset
eleven : (bs : List ℕ) → length bs ≡ 11 → slice_index bs 0 ∷ (take 8 (drop 1 bs) ++ (slice_index bs 9 ∷ slice_index bs 10 ∷ [])) ≡ bs
eleven bs h = same_lists _ _ (search (rules, places)) (λ k d l. grind (arith, places))

-- the bytes are those of the name and the offset that they hold
pub row_of_eleven : (bs name : List ℕ) (o : ℤ) → length bs ≡ 11 → slice_index bs 0 ≡ 0x52 → name ≡ take 8 (drop 1 bs) → o ≡ to_z w16 (slice_index bs 9 + slice_index bs 10 * 256) → ((i : ℕ) → Fits w8 (slice_index bs i)) → reflector_row (name, o) ≡ bs
row_of_eleven bs name o long kind en eo fits =
    let two = signed_low_first_of o (slice_index bs 9) (slice_index bs 10) eo (omega (arith, fits 9)) (omega (arith, fits 10)) in
    cc (eleven bs long)

-- a test of the name and the offset says whether two rows are identical
pub identical : (x y : Reflector) (r : Bool) → r ≡ is_same_reflector x y → IsTrue r ↔ (x ≡ y)
identical x y r e =
    let names = slice_eq-Decides Decides-eqb x.name y.name (pointwise ◌==◌ x.name y.name) refl in
    let offsets = Decides-int_eq x.offset y.offset in (
      λ t. let both = and_parts _ _ (sym e ∙ t) in same_row x y (names.0 both.0, offsets.0 both.1),
      λ same. e ∙ and_from _ _ (names.1 (ap (λ z. z.name) same)) (offsets.1 (ap (λ z. z.offset) same)),
    )
