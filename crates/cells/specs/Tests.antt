-- Tests over a range of numbers: whether one passes, which is the first, and how many do.
use Rattle.std.specs.Prelude.{ℕ, zero, suc, ◌+◌, Bool, false, cond, ◌||◌, Some, None, Option}

-- f holds at one of the n numbers from first on
unfoldable pub any_in : (ℕ → Bool) → ℕ → ℕ → Bool
any_in f first zero = false
any_in f first (suc n) = f first || any_in f (first + 1) n

-- the first of the n numbers from first on at which f holds
unfoldable pub first_in : (ℕ → Bool) → ℕ → ℕ → Option ℕ
first_in f first zero = None
first_in f first (suc n) = cond (f first) (Some first) (first_in f (first + 1) n)

-- at how many of the first n numbers f holds
unfoldable pub how_many : (ℕ → Bool) → ℕ → ℕ
how_many f zero = 0
how_many f (suc n) = how_many f n + cond (f n) 1 0
