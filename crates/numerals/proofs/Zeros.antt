-- Rows of zeros, and rows of digits that are not all zeros.
use Rattle.std.proofs.Common.{◌≡◌, ℕ, suc, ◌+◌, ◌*◌, ◌^◌, ◌<◌, Bool, true, false, ◌&&◌, eqb, List, [], ◌∷◌, ◌++◌, length, sym, refl, ap, ◌∙◌, inl, inr, mul_assoc, mul_comm, add-mul, pow-suc, arith}
use Rattle.std.proofs.lemmas.Bool.{and_parts, eqb-true, ltb-true, cases_eq}
use Rattle.std.proofs.lemmas.Bool.Decides.{nat_tests}
use Rattle.std.specs.Str.Parse.{digits_value_after, AllDigits}
use Rattle.std.specs.Char.{digit_value}
use Rattle.numerals.specs.Digits.{are_digits, is_digit}
use Rattle.numerals.specs.Fractions.{are_zeros}
use Rattle.numerals.proofs.Reading.{value_after_ge}

-- zeros are digits
digits_zeros : (zs : List ℕ) → are_zeros zs ≡ true → are_digits 10 zs ≡ true
digits_zeros [] h = refl
digits_zeros (c ∷ cs) h =
    let p = and_parts (eqb c 48) (are_zeros cs) h in
    let e : c ≡ 48 = eqb-true _ _ p.0 in
    rw e (digits_zeros cs p.1)

pub digits_then_zeros : (xs zs : List ℕ) → are_zeros zs ≡ true → are_digits 10 (xs ++ zs) ≡ are_digits 10 xs
digits_then_zeros [] zs h = digits_zeros zs h
digits_then_zeros (x ∷ xs) zs h = ap (λ (b : Bool). is_digit 10 x && b) (digits_then_zeros xs zs h)

pub digits_last : (xs ys : List ℕ) → are_digits 10 (xs ++ ys) ≡ true → are_digits 10 ys ≡ true
digits_last [] ys h = h
digits_last (x ∷ xs) ys h = digits_last xs ys (and_parts (is_digit 10 x) (are_digits 10 (xs ++ ys)) h).1

pub value_append : (n : ℕ) (xs ys : List ℕ) → digits_value_after 10 n (xs ++ ys) ≡ digits_value_after 10 (digits_value_after 10 n xs) ys
value_append n [] ys = refl
value_append n (x ∷ xs) ys = value_append (n * 10 + digit_value x) xs ys

shifted : (m l : ℕ) → m * 10 * 10 ^ l ≡ m * 10 ^ suc l
shifted m l = mul_assoc m 10 (10 ^ l) ∙ ap (λ (x : ℕ). m * x) (mul_comm 10 (10 ^ l) ∙ sym (pow-suc 10 l))

-- what a row of digits adds to the number before it
pub value_split : (m : ℕ) (ds : List ℕ) → digits_value_after 10 m ds ≡ m * 10 ^ length ds + digits_value_after 10 0 ds
value_split m [] = omega arith
value_split m (d ∷ ds) =
    let v = digit_value d in
    let p = 10 ^ length ds in
    let a : digits_value_after 10 (m * 10 + v) ds ≡ (m * 10 + v) * p + digits_value_after 10 0 ds = value_split (m * 10 + v) ds in
    let b : digits_value_after 10 (0 * 10 + v) ds ≡ (0 * 10 + v) * p + digits_value_after 10 0 ds = value_split (0 * 10 + v) ds in
    let z : (0 * 10 + v) * p ≡ v * p = ap (λ (x : ℕ). x * p) (omega arith) in
    omega (arith, a, b, z, add-mul (m * 10) v p, shifted m (length ds))

pub value_zeros : (m : ℕ) (zs : List ℕ) → are_zeros zs ≡ true → digits_value_after 10 m zs ≡ m * 10 ^ length zs
value_zeros m [] h = omega arith
value_zeros m (c ∷ cs) h =
    let p = and_parts (eqb c 48) (are_zeros cs) h in
    let e : c ≡ 48 = eqb-true _ _ p.0 in
    let z : m * 10 + digit_value c ≡ m * 10 = rw e (omega arith) in
    value_zeros (m * 10 + digit_value c) cs p.1 ∙ ap (λ (x : ℕ). x * 10 ^ length cs) z ∙ shifted m (length cs)

-- digits that are not all zeros
pub value_some : (ds : List ℕ) → are_zeros ds ≡ false → are_digits 10 ds ≡ true → 0 < digits_value_after 10 0 ds
value_some [] h k = absurd (grind arith)
value_some (c ∷ cs) h k =
    let q = and_parts (is_digit 10 c) (are_digits 10 cs) k in
    elim (cases_eq c 48) [
      | inl e ↦ let r : are_zeros cs ≡ false = rw e at h in rw e (value_some cs r q.1)
      | inr ne ↦
          let u : 0 < digit_value c = grind (arith, nat_tests) in
          omega (arith, value_after_ge 10 (0 * 10 + digit_value c) cs (omega arith))
    ]

pub below_from : (ds : List ℕ) → are_digits 10 ds ≡ true → AllDigits 10 ds
below_from [] h = tt
below_from (c ∷ cs) h = let p = and_parts (is_digit 10 c) (are_digits 10 cs) h in (ltb-true _ _ p.0, below_from cs p.1)
