-- Reading on, digit by digit: a number only grows, so one that does not fit is lost for good.
use Rattle.std.proofs.Common.{◌≡◌, ℕ, ◌+◌, ◌*◌, ◌^◌, ◌<◌, ◌≤◌, Bool, true, false, cond, ◌&&◌, ltb, List, [], ◌∷◌, ◌++◌, length, get_or, drop, Some, None, sym, refl, ap, ◌∙◌, inl, inr, le_refl, mul-le-mul_left, mul-one, arith}
use Rattle.std.proofs.lemmas.List.{at_drop_more}
use Rattle.std.proofs.lemmas.Bool.{le-ltb, lt-ltb, cases_lt}
use Rattle.std.proofs.lemmas.Bool.Decides.{nat_tests}
use Rattle.std.specs.Str.Parse.{digits_value_after}
use Rattle.std.specs.Char.{digit_value}
use Rattle.numerals.specs.Digits.{are_digits, fitting, with_digits}

grows : (base n d : ℕ) → 1 ≤ base → n ≤ n * base + d
grows base n d h = let m : n * 1 ≤ n * base = mul-le-mul_left n h in omega (arith, m, mul-one n)

pub value_after_ge : (base n : ℕ) (ds : List ℕ) → 1 ≤ base → n ≤ digits_value_after base n ds
value_after_ge base n [] h = le_refl n
value_after_ge base n (d ∷ ds) h = omega (arith, grows base n (digit_value d) h, value_after_ge base (n * base + digit_value d) ds h)

same_cond : {X : Type 0} (b : Bool) (x : X) → cond b x x ≡ x
same_cond true x = refl
same_cond false x = refl

-- a number that does not fit is refused, whatever follows
too_large : (base n : ℕ) (ds : List ℕ) → 1 ≤ base → 2 ^ 64 ≤ n → with_digits base n ds ≡ None
too_large base n ds h k =
    let e : ltb (digits_value_after base n ds) (2 ^ 64) ≡ false = le-ltb _ _ (omega (arith, value_after_ge base n ds h)) in
    ap (λ (b : Bool). cond (are_digits base ds) (cond b (Some (digits_value_after base n ds)) None) None) e ∙ same_cond (are_digits base ds) None

-- a digit is read, and the rest after it
read_digit : (base n d : ℕ) (ds : List ℕ) → digit_value d < base → with_digits base n (d ∷ ds) ≡ with_digits base (n * base + digit_value d) ds
read_digit base n d ds h =
    ap (λ (b : Bool). cond (b && are_digits base ds) (fitting 64 (Some (digits_value_after base (n * base + digit_value d) ds))) None) (lt-ltb _ _ h)

-- a digit with which the number no longer fits: the end
pub digit_overflows : (base n : ℕ) (ds : List ℕ) (i : ℕ) → i < length ds → 1 ≤ base → digit_value (get_or ds i 0) < base → 2 ^ 64 ≤ n * base + digit_value (get_or ds i 0) → with_digits base n (drop i ds) ≡ None
digit_overflows base n ds i within one h k =
    at_drop_more (with_digits base n) ds i 0 within
    ∙ read_digit base n (get_or ds i 0) (drop (i + 1) ds) h
    ∙ too_large base (n * base + digit_value (get_or ds i 0)) (drop (i + 1) ds) one k

-- a row of digits that cannot be read cannot be read with more after it
pub joined_none : (base n : ℕ) (ds es : List ℕ) → 1 ≤ base → with_digits base n ds ≡ None → with_digits base n (ds ++ es) ≡ None
joined_none base n [] es one h = too_large base n es one (grind (arith, nat_tests))
joined_none base n (d ∷ ds) es one h =
    elim (cases_lt (digit_value d) base) [
      | inl k ↦ read_digit base n d (ds ++ es) k ∙ joined_none base (n * base + digit_value d) ds es one (sym (read_digit base n d ds k) ∙ h)
      | inr k ↦ let e : ltb (digit_value d) base ≡ false = le-ltb _ _ k in rw e
    ]

-- and one that can is read first
pub joined_some : (base n m : ℕ) (ds es : List ℕ) → with_digits base n ds ≡ Some m → with_digits base n (ds ++ es) ≡ with_digits base m es
joined_some base n m [] es h = let k : n ≡ m = grind (arith, nat_tests) in ap (λ (x : ℕ). with_digits base x es) k
joined_some base n m (d ∷ ds) es h =
    elim (cases_lt (digit_value d) base) [
      | inl k ↦ read_digit base n d (ds ++ es) k ∙ joined_some base (n * base + digit_value d) m ds es (sym (read_digit base n d ds k) ∙ h)
      | inr k ↦
          let e : ltb (digit_value d) base ≡ false = le-ltb _ _ k in
          let z : None ≡ Some m = rw e at h in
          absurd (grind arith)
    ]
