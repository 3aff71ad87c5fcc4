-- A mark at the front: `0x` of an address, the minus of a number.
use Rattle.std.proofs.Common.{◌≡◌, ℕ, ◌^◌, ◌<◌, ◌-◌, ◌≤◌, ◌∙◌, take, eqb, ltb, List, [], ◌∷◌, length, get_or, drop, ap, inl, inr, ℤ, pos, neg_ℤ, ◌-ℤ◌, to_z, of_z, w32, Some, None, Option, true, false, arith, refl, sym}
use Rattle.std.proofs.lemmas.Bool.{eq-eqb, le-ltb, lt-ltb, cases_lt}
use Rattle.std.proofs.lemmas.Int.{ints}
use Rattle.std.proofs.lemmas.List.{take_rest}
use Rattle.std.specs.Option.{option_map}
use Rattle.numerals.specs.Digits.{fitting, numeral_of}
use Rattle.numerals.specs.Fractions.{after_point, before_point, fixed_of, parted, signed, size_of}
use Rattle.numerals.specs.Wholes.{address_of}

pub address_marked : (text : List ℕ) → 2 ≤ length text → get_or text 0 0 ≡ 48 → get_or text 1 0 ≡ 120 → address_of text ≡ fitting 64 (numeral_of 16 (drop 2 text))
address_marked [] h a b = absurd (omega arith)
address_marked (x ∷ []) h a b = absurd (omega arith)
address_marked (x ∷ y ∷ ds) h a b =
    let p : eqb x 48 ≡ true = eq-eqb _ _ a in
    let q : eqb y 120 ≡ true = eq-eqb _ _ b in
    rw (p, q)

-- the code's minus
abbrev minus_of : ℤ → ℤ
minus_of z = to_z w32 (of_z w32 (pos 0 -ℤ to_z w32 (of_z w32 z)))

-- is the minus of each size
minus : (n : ℕ) → n < 2 ^ 31 → minus_of (pos n) ≡ neg_ℤ (pos n)
minus n h = grind (arith, ints)

signed_minus : (o : Option ℕ) → signed true (fitting 31 o) ≡ option_map minus_of (signed false (fitting 31 o))
signed_minus None = refl
signed_minus (Some n) =
    elim (cases_lt n (2 ^ 31)) [
      | inl h ↦ let t : ltb n (2 ^ 31) ≡ true = lt-ltb _ _ h in rw t (ap Some (sym (minus n h)))
      | inr h ↦ let t : ltb n (2 ^ 31) ≡ false = le-ltb _ _ h in rw t
    ]

pub fixed_minus : (places : ℕ) (text : List ℕ) → 1 ≤ length text → get_or text 0 0 ≡ 45 → fixed_of places text ≡ signed true (size_of places (drop 1 text))
fixed_minus places [] h a = absurd (omega arith)
fixed_minus places (x ∷ cs) h a = let p : eqb x 45 ≡ true = eq-eqb _ _ a in rw p

-- the number after a minus is the minus of the size that stands there
pub fixed_after_minus : (places : ℕ) (text : List ℕ) → 1 ≤ length text → get_or text 0 0 ≡ 45 → fixed_of places text ≡ option_map minus_of (signed false (size_of places (take (length text - 1) (drop 1 text))))
fixed_after_minus places text h a =
    fixed_minus places text h a
    ∙ signed_minus (parted places (before_point (drop 1 text)) (after_point (drop 1 text)))
    ∙ ap (λ (l : List ℕ). option_map minus_of (signed false (size_of places l))) (sym (take_rest text 1))
