-- The lengths that an array may have.
use Rattle.std.specs.Prelude.{ℕ, Bool, ◌||◌, ◌==◌}

-- 65,536 × 1, 2, 4, 8 or 16
abbrev pub is_capacity : ℕ → Bool
is_capacity n = n == 65536 || n == 131072 || n == 262144 || n == 524288 || n == 1048576
