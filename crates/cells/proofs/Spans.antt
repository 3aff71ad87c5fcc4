-- Whether a test holds at some address of a range.
use Rattle.std.proofs.Common.{◌≡◌, ℕ, zero, suc, ◌+◌, ◌-◌, ◌<◌, ◌≤◌, min, max, Bool, true, false, ◌&&◌, ltb, leb, ◌⊎◌, Some, None, Decides, sym, refl, ap, ◌∙◌, inl, inr, arith}
use Rattle.std.proofs.lemmas.Bool.{or_cases, or_left, or_right, true≢false, cases_Bool, cases_eq, cases_lt, cond-true, cond-false, ltb-true, leb-true, lt-ltb, and_parts}
use Rattle.std.proofs.lemmas.Bool.Decides.{same_from_decides, nat_tests}
use Rattle.cells.specs.Tests.{any_in, first_in}

-- an address of the range at which f holds
pub record Holds (f : ℕ → Bool) (first n : ℕ) : Type 0 where
  pub at : ℕ
  pub from : first ≤ at
  pub below : at < first + n
  pub holds : f at ≡ true

pub any_gives : (f : ℕ → Bool) (first n : ℕ) → any_in f first n ≡ true → Holds f first n
unfolding any_in
any_gives f first zero t = absurd (true≢false (sym t))
any_gives f first (suc n) t =
    elim (or_cases (f first) (any_in f (first + 1) n) t) [
      | inl here ↦ record { at = first; from = omega arith; below = omega arith; holds = here }
      | inr later ↦
          let h = any_gives f (first + 1) n later in
          let p = h.from in
          let q = h.below in
          record { at = h.at; from = omega arith; below = omega arith; holds = h.holds }
    ]

pub any_from : (f : ℕ → Bool) (first n : ℕ) → Holds f first n → any_in f first n ≡ true
unfolding any_in
any_from f first zero h = let p = h.from in let q = h.below in absurd (omega arith)
any_from f first (suc n) h =
    let p = h.from in
    let q = h.below in
    elim (cases_eq h.at first) [
      | inl here ↦ or_left (f first) (any_in f (first + 1) n) (ap f (sym here) ∙ h.holds)
      | inr later ↦
          or_right (f first) (any_in f (first + 1) n)
          (any_from f (first + 1) n (record { at = h.at; from = omega arith; below = omega arith; holds = h.holds }))
    ]

pub decides_any : (f : ℕ → Bool) (first n : ℕ) → Decides (any_in f first n) (Holds f first n)
decides_any f first n = (any_gives f first n, any_from f first n)

-- f holds exactly from lo on, below end: then it holds in the range if the two overlap
pub meets_any : (f : ℕ → Bool) (lo end first n : ℕ) → ((a : ℕ) → f a ≡ (leb lo a && ltb a end)) → ltb (max lo first) (min (first + n) end) ≡ any_in f first n
meets_any f lo end first n is =
    same_from_decides (ltb (max lo first) (min (first + n) end)) (any_in f first n) (
      (λ t. let lt = ltb-true (max lo first) (min (first + n) end) t in
          record { at = max lo first; from = omega arith; below = omega arith; holds = is (max lo first) ∙ grind (arith, nat_tests) }),
      λ h.
          let p = h.from in
          let q = h.below in
          let r = sym (is h.at) ∙ h.holds in
          let s = and_parts (leb lo h.at) (ltb h.at end) r in
          let u = leb-true lo h.at s.0 in
          let v = ltb-true h.at end s.1 in
          lt-ltb (max lo first) (min (first + n) end) (omega arith),
    )
    (decides_any f first n)

-- no address of a range inside another passes a test that none of the other passes
pub none_inside : (f : ℕ → Bool) (first n at m : ℕ) → any_in f first n ≡ false → first ≤ at → at + m ≤ first + n → any_in f at m ≡ false
none_inside f first n at m none low high =
    elim (cases_Bool (any_in f at m)) [
      | inl some ↦
          let h = any_gives f at m some in
          let from = h.from in
          let below = h.below in
          absurd (true≢false (sym (any_from f first n (record { at = h.at; from = omega arith; below = omega arith; holds = h.holds })) ∙ none))
      | inr e ↦ e
    ]

-- a test that no address of the range passes
pub any_none : (f : ℕ → Bool) (first n : ℕ) → ((a : ℕ) → first ≤ a → a < first + n → f a ≡ false) → any_in f first n ≡ false
any_none f first n none =
    elim (cases_Bool (any_in f first n)) [
      | inl some ↦ let h = any_gives f first n some in absurd (true≢false (sym h.holds ∙ none h.at h.from h.below))
      | inr e ↦ e
    ]

-- tests that agree in the range
pub any_same : (f g : ℕ → Bool) (first n : ℕ) → ((a : ℕ) → first ≤ a → a < first + n → f a ≡ g a) → any_in f first n ≡ any_in g first n
any_same f g first n same =
    same_from_decides (any_in f first n) (any_in g first n) (
      (λ t. let h = any_gives f first n t in record { at = h.at; from = h.from; below = h.below; holds = sym (same h.at h.from h.below) ∙ h.holds }),
      λ h. any_from f first n (record { at = h.at; from = h.from; below = h.below; holds = same h.at h.from h.below ∙ h.holds }),
    )
    (decides_any g first n)

-- what an address passes that is in the range
pub none_at : (f : ℕ → Bool) (first n a : ℕ) → any_in f first n ≡ false → first ≤ a → a < first + n → f a ≡ false
none_at f first n a none low high =
    elim (cases_Bool (f a)) [
      | inl some ↦ absurd (true≢false (sym (any_from f first n (record { at = a; from = low; below = high; holds = some })) ∙ none))
      | inr e ↦ e
    ]

-- a range counted from its first address
pub any_shifted : (f g : ℕ → Bool) (first n : ℕ) → ((k : ℕ) → k < n → f k ≡ g (first + k)) → any_in f 0 n ≡ any_in g first n
any_shifted f g first n same =
    same_from_decides (any_in f 0 n) (any_in g first n) (
      (λ t.
          let h = any_gives f 0 n t in
          let below = h.below in
          record { at = first + h.at; from = omega arith; below = omega arith; holds = sym (same h.at (omega arith)) ∙ h.holds }),
      λ h.
          let from = h.from in
          let below = h.below in
          let back : first + (h.at - first) ≡ h.at = omega arith in
          any_from f 0 n (record { at = h.at - first; from = omega arith; below = omega arith; holds = same (h.at - first) (omega arith) ∙ ap g back ∙ h.holds }),
    )
    (decides_any g first n)

-- a test that is passed only inside a smaller range
pub any_narrowed : (f : ℕ → Bool) (first n at m : ℕ) → first ≤ at → at + m ≤ first + n → ((a : ℕ) → first ≤ a → a < first + n → (a < at) ⊎ (at + m ≤ a) → f a ≡ false) → any_in f first n ≡ any_in f at m
any_narrowed f first n at m low high outside =
    same_from_decides (any_in f first n) (any_in f at m) (
      (λ t.
          let h = any_gives f first n t in
          let from = h.from in
          let below = h.below in
          elim (cases_lt h.at at) [
            | inl before ↦ absurd (true≢false (sym h.holds ∙ outside h.at from below (inl before)))
            | inr since ↦
                elim (cases_lt h.at (at + m)) [
                  | inl inside ↦ record { at = h.at; from = since; below = inside; holds = h.holds }
                  | inr behind ↦ absurd (true≢false (sym h.holds ∙ outside h.at from below (inr behind)))
                ]
          ]),
      λ h.
          let from = h.from in
          let below = h.below in
          any_from f first n (record { at = h.at; from = omega arith; below = omega arith; holds = h.holds }),
    )
    (decides_any f at m)

-- the first number that passes, and that none does
pub first_found : (f : ℕ → Bool) (first n at : ℕ) → first ≤ at → at < first + n → f at ≡ true → ((a : ℕ) → first ≤ a → a < at → f a ≡ false) → first_in f first n ≡ Some at
unfolding first_in
first_found f first zero at low high here before = absurd (omega arith)
first_found f first (suc n) at low high here before =
    elim (cases_eq at first) [
      | inl same ↦ cond-true (f first) (Some first) _ (ap f (sym same) ∙ here) ∙ ap (λ (k : ℕ). Some k) (sym same)
      | inr later ↦
          cond-false (f first) (Some first) _ (before first (omega arith) (omega arith))
          ∙ first_found f (first + 1) n at (omega arith) (omega arith) here (λ a l h. before a (omega arith) h)
    ]

pub first_none : (f : ℕ → Bool) (first n : ℕ) → ((a : ℕ) → first ≤ a → a < first + n → f a ≡ false) → first_in f first n ≡ None
unfolding first_in
first_none f first zero none = refl
first_none f first (suc n) none =
    cond-false (f first) (Some first) _ (none first (omega arith) (omega arith))
    ∙ first_none f (first + 1) n (λ a l h. none a (omega arith) (omega arith))

first_some : (f : ℕ → Bool) (first n : ℕ) → any_in f first n ≡ true → first_in f first n ≡ None → ⊥
unfolding first_in any_in
first_some f first zero some e = true≢false (sym some)
first_some f first (suc n) some e =
    elim (cases_Bool (f first)) [
      | inl here ↦ let z : ◌≡◌ {A = ℕ} 0 1 = cc (sym (cond-true (f first) (Some first) _ here) ∙ e) in omega arith
      | inr later ↦
          first_some f (first + 1) n
          (elim (or_cases (f first) (any_in f (first + 1) n) some) [ inl here ↦ absurd (true≢false (sym here ∙ later)) | inr rest ↦ rest ])
          (sym (cond-false (f first) (Some first) _ later) ∙ e)
    ]

-- where there is no first, none passes
pub none_first : (f : ℕ → Bool) (first n : ℕ) → first_in f first n ≡ None → (a : ℕ) → first ≤ a → a < first + n → f a ≡ false
none_first f first n e a low high =
    elim (cases_Bool (any_in f first n)) [
      | inl some ↦ absurd (first_some f first n some e)
      | inr none ↦ none_at f first n a none low high
    ]
