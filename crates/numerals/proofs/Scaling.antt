-- Zeros past the places leave a number as it is; anything else past them makes it no whole number of units.
use Rattle.std.proofs.Common.{◌≡◌, ℕ, ◌+◌, ◌-◌, ◌*◌, ◌%◌, ◌^◌, ◌<◌, ◌≤◌, min, Bool, true, false, cond, not, eqb, List, [], ◌∷◌, ◌++◌, length, take, drop, Some, None, Option, sym, refl, ap, ◌∙◌, inl, inr, mul_assoc, add-mul, mul-lt-mul_of_pos_right, le-mul_of_pos_right, mul-div_cancel, arith, pow-add}
use native.Mathlib.Nat.{mul-mod_left, one-le-pow}
use Rattle.std.proofs.Math.Nat.{mul-le-mul_left, pow-le-pow_right}
use Rattle.std.proofs.lemmas.Grind.{pow_more}
use Rattle.std.proofs.lemmas.Nat.{mod-mul-add}
use Rattle.std.proofs.lemmas.Int.Digits.{digits_value-lt}
use Rattle.std.proofs.lemmas.List.{append_assoc, take-append-drop, length-drop}
use Rattle.std.proofs.lemmas.Bool.{and_parts, ne_eqb, cases_Bool, cases_lt, eqb-false, not-true}
use Rattle.std.proofs.lemmas.Bool.Decides.{nat_tests}
use Rattle.std.specs.Str.Parse.{digits_value}
use Rattle.numerals.specs.Digits.{are_digits, fitting, with_digits}
use Rattle.numerals.specs.Fractions.{are_zeros, is_exact, exactly, units_of}
use Rattle.numerals.proofs.Zeros.{below_from, digits_last, digits_then_zeros, value_append, value_some, value_split, value_zeros}

ten_pow : (k : ℕ) → 0 < 10 ^ k
ten_pow k = one-le-pow k 10 (omega arith)

-- one zero more makes a number ten times as large, and more zeros never make it smaller
pub one_more_zero : (n k : ℕ) → n * 10 ^ (k + 1) ≡ n * 10 ^ k * 10
one_more_zero n k = ap (λ (x : ℕ). n * x) (pow_more 10 k) ∙ sym (mul_assoc n (10 ^ k) 10)

pub zeros_grow : (n k z : ℕ) → k ≤ z → n * 10 ^ k ≤ n * 10 ^ z
zeros_grow n k z h = mul-le-mul_left n (pow-le-pow_right (omega arith) h)

-- b zeros past the k places that count
exactly_zeros : (places k b x m : ℕ) → b + places ≡ x + k → exactly places k (Some (m * 10 ^ b)) ≡ Some (m * 10 ^ x)
exactly_zeros places k b x m h =
    let e : m * 10 ^ b * 10 ^ places ≡ m * 10 ^ x * 10 ^ k =
    mul_assoc m (10 ^ b) (10 ^ places)
    ∙ ap (λ (y : ℕ). m * y) (sym (pow-add 10 b places) ∙ ap (λ (y : ℕ). 10 ^ y) h ∙ pow-add 10 x k)
    ∙ sym (mul_assoc m (10 ^ x) (10 ^ k)) in
    rw (e, mul-mod_left (m * 10 ^ x) (10 ^ k), mul-div_cancel (m * 10 ^ x) (ten_pow k))

-- something else past them
exactly_not : (places b m v : ℕ) → 0 < v → v < 10 ^ b → exactly places (b + places) (Some (m * 10 ^ b + v)) ≡ None
exactly_not places b m v some under =
    let q = 10 ^ places in
    let s : 10 ^ (b + places) ≡ 10 ^ b * q = pow-add 10 b places in
    let n : (m * 10 ^ b + v) * q ≡ m * 10 ^ (b + places) + v * q =
    add-mul (m * 10 ^ b) v q ∙ ap (λ (y : ℕ). y + v * q) (mul_assoc m (10 ^ b) q ∙ ap (λ (y : ℕ). m * y) (sym s)) in
    let u : v * q < 10 ^ (b + places) = rw s (mul-lt-mul_of_pos_right under (ten_pow places)) in
    let r : (m * 10 ^ b + v) * q % 10 ^ (b + places) ≡ v * q = ap (λ (y : ℕ). y % 10 ^ (b + places)) n ∙ mod-mul-add m (10 ^ (b + places)) (v * q) u in
    let w : v ≤ v * q = le-mul_of_pos_right v (ten_pow places) in
    let z : eqb (v * q) 0 ≡ false = ne_eqb _ _ (λ e. omega arith) in
    rw (r, z)

-- the number of a row, if it is a row of digits
abbrev counted : List ℕ → Option ℕ
counted ds = cond (are_digits 10 ds) (Some (digits_value 10 ds)) None

in_both : (places k n m : ℕ) (b : Bool) → exactly places k (Some n) ≡ Some m → exactly places k (cond b (Some n) None) ≡ cond b (Some m) None
in_both places k n m true h = h
in_both places k n m false h = refl

counted_zeros : (places k x : ℕ) (row zs : List ℕ) → are_zeros zs ≡ true → length zs + places ≡ x + k → exactly places k (counted (row ++ zs)) ≡ cond (are_digits 10 row) (Some (digits_value 10 row * 10 ^ x)) None
counted_zeros places k x row zs h e =
    let d = digits_then_zeros row zs h in
    let v : digits_value 10 (row ++ zs) ≡ digits_value 10 row * 10 ^ length zs = value_append 0 row zs ∙ value_zeros (digits_value 10 row) zs h in
    ap (λ (n : ℕ). exactly places k (cond (are_digits 10 (row ++ zs)) (Some n) None)) v
    ∙ ap (λ (b : Bool). exactly places k (cond b (Some (digits_value 10 row * 10 ^ length zs)) None)) d
    ∙ in_both places k _ _ (are_digits 10 row) (exactly_zeros places k (length zs) x (digits_value 10 row) e)

counted_not : (places k : ℕ) (row ds : List ℕ) → are_zeros ds ≡ false → k ≡ length ds + places → exactly places k (counted (row ++ ds)) ≡ None
counted_not places k row ds h e =
    elim (cases_Bool (are_digits 10 (row ++ ds))) [
      | inl b ↦
          let d = digits_last row ds b in
          let v : digits_value 10 (row ++ ds) ≡ digits_value 10 row * 10 ^ length ds + digits_value 10 ds = value_append 0 row ds ∙ value_split (digits_value 10 row) ds in
          ap (λ (t : Bool). exactly places k (cond t (Some (digits_value 10 (row ++ ds))) None)) b
          ∙ ap (λ (n : ℕ). exactly places k (Some n)) v
          ∙ ap (λ (l : ℕ). exactly places l (Some (digits_value 10 row * 10 ^ length ds + digits_value 10 ds))) e
          ∙ exactly_not places (length ds) (digits_value 10 row) (digits_value 10 ds) (value_some ds h d) (digits_value-lt 10 ds (below_from ds d))
      | inr b ↦ ap (λ (t : Bool). exactly places k (cond t (Some (digits_value 10 (row ++ ds))) None)) b
    ]

some_left : (ds : List ℕ) → are_zeros ds ≡ false → 0 < length ds
some_left [] h = absurd (grind arith)
some_left (d ∷ ds) h = omega arith

whole_joined : (places : ℕ) (whole fraction : List ℕ) → 0 < length whole → units_of places whole fraction ≡ exactly places (length fraction) (counted (whole ++ fraction))
whole_joined places [] fraction h = absurd (omega arith)
whole_joined places (c ∷ cs) fraction h = refl

lost : (b : Bool) (v n : ℕ) → v ≤ n → cond b (fitting 64 (Some v)) None ≡ None → fitting 31 (cond b (Some n) None) ≡ None
lost true v n h e = grind (arith, nat_tests)
lost false v n h e = refl

found : (b : Bool) (v n p : ℕ) → cond b (fitting 64 (Some v)) None ≡ Some n → fitting 31 (cond b (Some (v * p)) None) ≡ fitting 31 (Some (n * p))
found true v n p e = let k : v ≡ n = grind (arith, nat_tests) in ap (λ (x : ℕ). fitting 31 (Some (x * p))) k
found false v n p e = absurd (grind arith)

units_none : (places : ℕ) (whole fraction : List ℕ) → length whole ≡ 0 → units_of places whole fraction ≡ None
units_none places [] fraction h = refl
units_none places (c ∷ cs) fraction h = absurd (omega arith)

-- a whole part, and a fraction cut at the places
module _ (places : ℕ) (whole fraction : List ℕ) (kept : ℕ) (cut : kept ≡ min places (length fraction)) where
  abbrev row : List ℕ
  row = whole ++ take kept fraction

  abbrev past : List ℕ
  past = drop kept fraction

  joined : 0 < length whole → units_of places whole fraction ≡ exactly places (length fraction) (counted (row ++ drop kept fraction))
  joined some =
      whole_joined places whole fraction some
      ∙ ap (λ (l : List ℕ). exactly places (length fraction) (counted l))
      (ap (λ (l : List ℕ). whole ++ l) (sym (take-append-drop kept fraction)) ∙ sym (append_assoc whole (take kept fraction) (drop kept fraction)))

  -- a digit past the places
  refused : 0 < length whole → are_zeros (drop kept fraction) ≡ false → units_of places whole fraction ≡ None
  refused some h =
      joined some
      ∙ counted_not places (length fraction) row (drop kept fraction) h (omega (arith, length-drop kept fraction, some_left (drop kept fraction) h))

  pub units_refused : is_exact whole past ≡ false → fitting 31 (units_of places whole fraction) ≡ None
  units_refused h =
      elim (cases_lt 0 (length whole)) [
        | inl some ↦
            let e : eqb (length whole) 0 ≡ false = ne_eqb _ _ (λ z. omega arith) in
            let z : are_zeros past ≡ false = rw e at h in
            ap (fitting 31) (refused some z)
        | inr none ↦ ap (fitting 31) (units_none places whole fraction (omega arith))
      ]

  -- only zeros past them
  accepted : is_exact whole past ≡ true → units_of places whole fraction ≡ cond (are_digits 10 row) (Some (digits_value 10 row * 10 ^ (places - kept))) None
  accepted h =
      let p = and_parts (not (eqb (length whole) 0)) (are_zeros past) h in
      let n = eqb-false _ _ (not-true _ p.0) in
      let some : 0 < length whole = elim (cases_lt 0 (length whole)) [ inl l ↦ l | inr l ↦ absurd (n (omega arith)) ] in
      joined some
      ∙ counted_zeros places (length fraction) (places - kept) row (drop kept fraction) p.1
      (omega (arith, length-drop kept fraction))

  pub units_lost : is_exact whole past ≡ true → with_digits 10 0 row ≡ None → fitting 31 (units_of places whole fraction) ≡ None
  units_lost h e = ap (fitting 31) (accepted h) ∙ lost (are_digits 10 row) (digits_value 10 row) _ (le-mul_of_pos_right _ (ten_pow (places - kept))) e

  pub units_found : (n : ℕ) → is_exact whole past ≡ true → with_digits 10 0 row ≡ Some n → fitting 31 (units_of places whole fraction) ≡ fitting 31 (Some (n * 10 ^ (places - kept)))
  units_found n h e = ap (fitting 31) (accepted h) ∙ found (are_digits 10 row) (digits_value 10 row) n (10 ^ (places - kept)) e
