-- Where the first point stands, and what that says of the two parts.
use Rattle.std.proofs.Common.{◌≡◌, ℕ, ◌+◌, ◌<◌, ◌≤◌, Bool, true, false, eqb, List, [], ◌∷◌, length, take, drop, Some, None, Option, sym, refl, ap, ◌∙◌, inl, inr, arith}
use Rattle.std.proofs.lemmas.List.{drop_all, drop_more, take_all, nil_from_length}
use Rattle.std.proofs.lemmas.Bool.{eq-eqb, ne_eqb, cases_eq}
use Rattle.std.proofs.lemmas.Bool.Decides.{nat_tests}
use Rattle.std.specs.List.{position, position_or_len}
use Rattle.numerals.specs.Digits.{fitting}
use Rattle.numerals.specs.Fractions.{before_point, after_point, parted, units_of, size_of}

-- a byte is a point
abbrev is_point : ℕ → Bool
is_point c = eqb c 46

-- it is as many bytes from the front as stand before it
place : (text : List ℕ) → position_or_len is_point text ≡ length (before_point text)
place [] = refl
place (c ∷ cs) =
    elim (cases_eq c 46) [
      | inl h ↦ let e : eqb c 46 ≡ true = eq-eqb _ _ h in rw e
      | inr h ↦ let e : eqb c 46 ≡ false = ne_eqb _ _ h in rw e (omega (arith, place cs))
    ]

-- what a list has after its first element
abbrev rest : List ℕ → Option (List ℕ)
rest [] = None
rest (c ∷ cs) = Some cs

take_before : (text : List ℕ) → take (length (before_point text)) text ≡ before_point text
take_before [] = refl
take_before (c ∷ cs) =
    elim (cases_eq c 46) [
      | inl h ↦ let e : eqb c 46 ≡ true = eq-eqb _ _ h in rw e
      | inr h ↦ let e : eqb c 46 ≡ false = ne_eqb _ _ h in rw e (ap (λ (l : List ℕ). c ∷ l) (take_before cs))
    ]

rest_from_point : (text : List ℕ) → after_point text ≡ rest (drop (length (before_point text)) text)
rest_from_point [] = refl
rest_from_point (c ∷ cs) =
    elim (cases_eq c 46) [
      | inl h ↦ let e : eqb c 46 ≡ true = eq-eqb _ _ h in rw e
      | inr h ↦ let e : eqb c 46 ≡ false = ne_eqb _ _ h in rw e (rest_from_point cs)
    ]

after : (places : ℕ) (whole fraction : List ℕ) → 0 < length fraction → parted places whole (Some fraction) ≡ units_of places whole fraction
after places whole [] h = absurd (omega arith)
after places whole (c ∷ cs) h = refl

module _ (places : ℕ) (text : List ℕ) where
  -- the point stands at n, or n is the length
  split_at : (n : ℕ) → n ≡ position_or_len is_point text → size_of places text ≡ fitting 31 (parted places (take n text) (rest (drop n text)))
  split_at n is =
      let front : before_point text ≡ take n text = sym (take_before text) ∙ ap (λ (i : ℕ). take i text) (sym (is ∙ place text)) in
      let back : after_point text ≡ rest (drop n text) = rest_from_point text ∙ ap (λ (i : ℕ). rest (drop i text)) (sym (is ∙ place text)) in
      cc

  -- there is no point
  pub size_whole : None ≡ position is_point text → size_of places text ≡ fitting 31 (units_of places text [])
  size_whole h =
      let n = position_or_len is_point text in
      let past : length text ≤ n = grind (arith, nat_tests) in
      split_at n refl
      ∙ ap (λ (l : List ℕ). fitting 31 (parted places (take n text) (rest l))) (drop_all n text past)
      ∙ ap (λ (l : List ℕ). fitting 31 (units_of places l [])) (take_all n text past)

  -- a point stands at n
  parted_at : (n : ℕ) → Some n ≡ position is_point text → size_of places text ≡ fitting 31 (parted places (take n text) (Some (drop (n + 1) text)))
  parted_at n h =
      let is : n ≡ position_or_len is_point text = grind (arith, nat_tests) in
      let here : n < length text = grind (arith, nat_tests) in
      split_at n is ∙ ap (λ (l : List ℕ). fitting 31 (parted places (take n text) (rest l))) (drop_more text n 0 here)

  -- nothing comes after it
  pub size_bare : (n : ℕ) → Some n ≡ position is_point text → length (drop (n + 1) text) ≡ 0 → size_of places text ≡ None
  size_bare n h e = parted_at n h ∙ ap (λ (l : List ℕ). fitting 31 (parted places (take n text) (Some l))) (nil_from_length _ e)

  -- something does
  pub size_parted : (n : ℕ) → Some n ≡ position is_point text → 0 < length (drop (n + 1) text) → size_of places text ≡ fitting 31 (units_of places (take n text) (drop (n + 1) text))
  size_parted n h e = parted_at n h ∙ ap (fitting 31) (after places (take n text) (drop (n + 1) text) e)
