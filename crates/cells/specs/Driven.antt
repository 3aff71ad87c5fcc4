-- What stands in the answer buffer after a frame.
use Rattle.std.specs.Prelude.{ℕ, ◌+◌, ◌-◌, cond, ◌||◌, List, length, ◌==◌, nat_lt}
use Rattle.cells.specs.Bytes.{changed, wrapped}

-- at each of the first n places i what f drives there; from n on the buffer is as it was
abbrev pub driven : (ℕ → ℕ) → ℕ → List ℕ → List ℕ
driven f n old = changed 0 n (λ i _. f i) old

-- nothing is driven: FF
abbrev pub silent : ℕ → ℕ
silent i = 255

-- FF while the code comes in, then the value
abbrev pub repeated : ℕ → ℕ → ℕ
repeated value i = cond (i == 0) 255 value

-- FF for the first skip bytes, then the cells from the address at on, going from the last to the first; where there
-- are no cells nothing is driven
abbrev pub read_out : List ℕ → ℕ → ℕ → ℕ → ℕ
read_out cells at skip i = cond (nat_lt i skip || length cells == 0) 255 (wrapped cells (at + (i - skip)))
