-- How many numbers pass a test.
use Rattle.std.proofs.Common.{◌≡◌, ℕ, zero, suc, ◌+◌, ◌<◌, ◌≤◌, Bool, true, false, cond, ◌⊎◌, refl, ap, ◌∙◌, inl, inr, add-zero, arith}
use Rattle.std.proofs.lemmas.Bool.{cases_eq}
use Rattle.cells.specs.Tests.{how_many}

-- what one number adds
pub at_most_one : (b : Bool) → cond {A = ℕ} b 1 0 ≤ 1
at_most_one true = omega arith
at_most_one false = omega arith

one_more : (a b : Bool) → (a ≡ true → b ≡ true) → cond {A = ℕ} a 1 0 ≤ cond b 1 0
one_more true b f = rw (f refl) (omega arith)
one_more false b f = omega arith

-- tests that agree below n
pub count_same : (f g : ℕ → Bool) (n : ℕ) → ((k : ℕ) → k < n → f k ≡ g k) → how_many f n ≡ how_many g n
unfolding how_many
count_same f g zero same = refl
count_same f g (suc n) same =
    ap (λ (c : ℕ). c + cond (f n) 1 0) (count_same f g n (λ k h. same k (omega arith)))
    ∙ ap (λ (b : Bool). how_many g n + cond b 1 0) (same n (omega arith))

-- a test that none passes
pub count_none : (f : ℕ → Bool) (n : ℕ) → ((k : ℕ) → k < n → f k ≡ false) → how_many f n ≡ 0
unfolding how_many
count_none f zero none = refl
count_none f (suc n) none =
    ap (λ (c : ℕ). c + cond (f n) 1 0) (count_none f n (λ k h. none k (omega arith)))
    ∙ ap (λ (b : Bool). 0 + cond {A = ℕ} b 1 0) (none n (omega arith))

split : (a b c : Bool) → ((a ≡ c) × (b ≡ false)) ⊎ ((a ≡ false) × (b ≡ c)) → cond {A = ℕ} a 1 0 + cond b 1 0 ≡ cond c 1 0
split a b c (inl h) = rw (h.0, h.1) (omega arith)
split a b c (inr h) = rw (h.0, h.1) (omega arith)

-- a test that goes by one test for some numbers, by another for the rest, and each of the two is passed by none of the
-- other's numbers
pub count_split : (f g h : ℕ → Bool) (n : ℕ) → ((k : ℕ) → k < n → ((f k ≡ h k) × (g k ≡ false)) ⊎ ((f k ≡ false) × (g k ≡ h k))) → how_many f n + how_many g n ≡ how_many h n
unfolding how_many
count_split f g h zero each = refl
count_split f g h (suc n) each =
    let before = count_split f g h n (λ k l. each k (omega arith)) in
    let here = split (f n) (g n) (h n) (each n (omega arith)) in
    omega (arith, before, here)

-- a test that only one number can pass
pub count_one : (f : ℕ → Bool) (n at : ℕ) → at < n → ((k : ℕ) → k < n → (k ≡ at → ⊥) → f k ≡ false) → how_many f n ≡ cond (f at) 1 0
unfolding how_many
count_one f zero at low others = absurd (omega arith)
count_one f (suc n) at low others =
    elim (cases_eq n at) [
      | inl here ↦
          ap (λ (c : ℕ). c + cond (f n) 1 0) (count_none f n (λ k h. others k (omega arith) (λ e. omega arith)))
          ∙ omega arith
          ∙ ap (λ (k : ℕ). cond {A = ℕ} (f k) 1 0) here
      | inr other ↦
          ap (λ (b : Bool). how_many f n + cond b 1 0) (others n (omega arith) other)
          ∙ add-zero (how_many f n)
          ∙ count_one f n at (omega arith) (λ k h. others k (omega arith))
    ]

pub count_most : (f : ℕ → Bool) (n : ℕ) → how_many f n ≤ n
unfolding how_many
count_most f zero = omega arith
count_most f (suc n) = omega (arith, count_most f n, at_most_one (f n))

-- a test that is passed wherever another is
pub count_more : (f g : ℕ → Bool) (n : ℕ) → ((k : ℕ) → f k ≡ true → g k ≡ true) → how_many f n ≤ how_many g n
unfolding how_many
count_more f g zero more = omega arith
count_more f g (suc n) more = omega (arith, one_more (f n) (g n) (more n), count_more f g n more)

-- the same, but for one number
but_one : (f g : ℕ → Bool) (n at : ℕ) → ((k : ℕ) → (k ≡ at → ⊥) → f k ≡ true → g k ≡ true) → (n ≤ at → how_many f n ≤ how_many g n) × (how_many f n ≤ 1 + how_many g n)
unfolding how_many
but_one f g zero at more = (λ _. omega arith, omega arith)
but_one f g (suc n) at more =
    let before = but_one f g n at more in (
      λ h. omega (arith, one_more (f n) (g n) (more n (λ e. omega arith)), before.0 (omega arith)),
      elim (cases_eq n at) [
        | inl here ↦ omega (arith, at_most_one (f n), before.0 (omega arith))
        | inr other ↦ omega (arith, one_more (f n) (g n) (more n other), before.1)
      ],
    )

pub count_but_one : (f g : ℕ → Bool) (n at : ℕ) → ((k : ℕ) → (k ≡ at → ⊥) → f k ≡ true → g k ≡ true) → how_many f n ≤ 1 + how_many g n
count_but_one f g n at more = (but_one f g n at more).1
