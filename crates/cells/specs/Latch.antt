-- The page latch, offset by offset.
use Rattle.std.specs.Prelude.{ℕ, ◌+◌, ◌%◌, cond, List, [], ◌∷◌, ◌==◌}
use Rattle.cells.specs.Bytes.{counted}

-- the byte at the offset o, which was `before`, once bytes went in from the address at on: each byte goes to
-- its address mod 256 and replaces what stood there
abbrev pub latch_byte : ℕ → List ℕ → ℕ → ℕ → ℕ
latch_byte at [] o before = before
latch_byte at (byte ∷ rest) o before = latch_byte (at + 1) rest o (cond (at % 256 == o) byte before)

-- the whole latch: FF wherever no byte went
unfoldable pub latched : ℕ → List ℕ → List ℕ
latched at bytes = counted (λ o. latch_byte at bytes o 255) 256
