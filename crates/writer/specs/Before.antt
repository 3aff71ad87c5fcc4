-- What a stretch of flash holds before it is programmed.
use Rattle.std.specs.Prelude.{ℕ, ◌≤◌, List, length, Some, None, Option, slice_index}
use Rattle.std.specs.Borrow.{Bor}

-- the byte at a place of the stretch: of these bytes, or FF throughout if it has just been erased
abbrev pub byte_before : Option (Bor (List ℕ)) → ℕ → ℕ
byte_before None k = 255
byte_before (Some old) k = slice_index old.now k

-- a stretch of n bytes is known
abbrev pub KnownTo : ℕ → Option (Bor (List ℕ)) → Type 0
KnownTo n None = Unit {0}
KnownTo n (Some old) = n ≤ length old.now
