-- `counted` and `changed`: lengths, single bytes, and ranges side by side.
use Rattle.std.proofs.Common.{◌≡◌, ℕ, ◌+◌, ◌<◌, ◌≤◌, min, cond, ◌⊎◌, List, length, get_or, sym, refl, ap, ◌∙◌, inl, inr, zero-add, arith}
use Rattle.std.proofs.lemmas.List.FromFn.{length-map-range_with_len, get_or-map-range_with_len, fill_by_all}
use Rattle.std.proofs.lemmas.List.{get_or_past}
use Rattle.std.proofs.lemmas.Bool.{cases_lt}
use Rattle.std.proofs.lemmas.Bool.Decides.{nat_tests}
use Rattle.cells.specs.Bytes.{counted, changed, changed_at, within}
use Rattle.cells.specs.Changes.{from}

pub length-counted : (f : ℕ → ℕ) (n : ℕ) → length (counted f n) ≡ n
unfolding counted
length-counted f n = length-map-range_with_len f 0 n

pub get_or-counted : (f : ℕ → ℕ) (n a : ℕ) → a < n → get_or (counted f n) a 0 ≡ f a
unfolding counted
get_or-counted f n a h = get_or-map-range_with_len f 0 n a a 0 h (omega arith)

-- a list is `counted f n` if it has n bytes and f a at each address a
pub counted_all : (f : ℕ → ℕ) (n : ℕ) (xs : List ℕ) → length xs ≡ n → ((a : ℕ) → a < n → get_or xs a 0 ≡ f a) → xs ≡ counted f n
unfolding counted
counted_all f n xs l each = fill_by_all f xs n 0 l each

pub length-changed : (first len : ℕ) (g : ℕ → ℕ → ℕ) (xs : List ℕ) → length (changed first len g xs) ≡ length xs
unfolding changed
length-changed first len g xs = length-counted (changed_at first len g xs) (length xs)

pub get_or-changed : (first len : ℕ) (g : ℕ → ℕ → ℕ) (xs : List ℕ) (a : ℕ) → a < length xs → get_or (changed first len g xs) a 0 ≡ changed_at first len g xs a
unfolding changed
get_or-changed first len g xs a h = get_or-counted (changed_at first len g xs) (length xs) a h

-- a list is `changed first len g xs` if it is as long as xs and has the changed byte at each address
pub changed_all : (first len : ℕ) (g : ℕ → ℕ → ℕ) (xs ys : List ℕ) → length ys ≡ length xs → ((a : ℕ) → a < length xs → get_or ys a 0 ≡ changed_at first len g xs a) → ys ≡ changed first len g xs
unfolding changed
changed_all first len g xs ys l each = counted_all (changed_at first len g xs) (length xs) ys l each

-- inside the range the rule gives the byte
pub changed_inside : (first len : ℕ) (g : ℕ → ℕ → ℕ) (xs : List ℕ) (a : ℕ) → first ≤ a → a < first + len → changed_at first len g xs a ≡ g a (get_or xs a 0)
changed_inside first len g xs a l u = grind (arith, nat_tests)

-- outside the range nothing changes
pub changed_outside : (first len : ℕ) (g : ℕ → ℕ → ℕ) (xs : List ℕ) (a : ℕ) → (a < first) ⊎ (first + len ≤ a) → get_or (changed first len g xs) a 0 ≡ get_or xs a 0
changed_outside first len g xs a out =
    elim (cases_lt a (length xs)) [
      | inl there ↦ get_or-changed first len g xs a there ∙ elim out [ inl before ↦ grind (arith, nat_tests) | inr behind ↦ grind (arith, nat_tests) ]
      | inr past ↦ let l = length-changed first len g xs in get_or_past (changed first len g xs) a 0 (omega arith) ∙ sym (get_or_past xs a 0 past)
    ]

-- a range without a byte that exists changes nothing
pub changed_past : (first len : ℕ) (g : ℕ → ℕ → ℕ) (xs : List ℕ) → min (first + len) (length xs) ≤ first → xs ≡ changed first len g xs
changed_past first len g xs past = changed_all first len g xs xs refl (λ a h. grind (arith, nat_tests))

-- a range of no bytes changes nothing
pub changed_none : (first : ℕ) (g : ℕ → ℕ → ℕ) (xs : List ℕ) → xs ≡ changed first 0 g xs
changed_none first g xs = changed_past first 0 g xs (omega arith)

-- two ranges side by side are one
pub changed_join : (first m n at len : ℕ) (g : ℕ → ℕ → ℕ) (xs : List ℕ) → first + m ≡ at → m + n ≡ len → changed at n g (changed first m g xs) ≡ changed first len g xs
changed_join first m n at len g xs p q =
    let ys = changed first m g xs in
    let l = length-changed first m g xs in
    changed_all first len g xs (changed at n g ys) (length-changed at n g ys ∙ l)
    (λ a k.
    let e1 = get_or-changed first m g xs a k in
    let e2 = get_or-changed at n g ys a (omega arith) in
    grind (arith, nat_tests))

-- rules that agree in the range change it alike
pub changed_same : (first len : ℕ) (g h : ℕ → ℕ → ℕ) (xs : List ℕ) → ((a old : ℕ) → g a old ≡ h a old) → changed first len g xs ≡ changed first len h xs
changed_same first len g h xs same =
    changed_all first len h xs (changed first len g xs) (length-changed first len g xs)
    (λ a k. get_or-changed first len g xs a k ∙ ap (λ (y : ℕ). cond (within first len a) y (get_or xs a 0)) (same a (get_or xs a 0)))

-- at the address 0 a rule from a base is the rule itself
pub changed_from_zero : (first len : ℕ) (g : ℕ → ℕ → ℕ) (xs : List ℕ) → changed first len (from 0 g) xs ≡ changed first len g xs
changed_from_zero first len g xs = changed_same first len (from 0 g) g xs (λ a old. ap (λ (m : ℕ). g m old) (zero-add a))
