-- What each kind of change makes of one cell, from its address and its old byte.
use Rattle.std.specs.Prelude.{ℕ, ◌+◌, ◌-◌, ◌%◌, List, bit_and, bit_or, slice_index}
use Rattle.cells.specs.Bytes.{wrapped}

-- a program turns ones into zeros and never a zero into a one: old AND latch
abbrev pub programmed : List ℕ → ℕ → ℕ → ℕ
programmed latch a old = bit_and old (slice_index latch (a % 256))

-- the same for bytes at a place: the byte for the place itself comes first
abbrev pub anded : ℕ → List ℕ → ℕ → ℕ → ℕ
anded at new a old = bit_and old (slice_index new (a - at))

-- bytes take the place of others: the byte for the place itself comes first
abbrev pub replaced : ℕ → List ℕ → ℕ → ℕ → ℕ
replaced at new a old = slice_index new (a - at)

-- an erase brings every one back
abbrev pub erased : ℕ → ℕ → ℕ
erased a old = 255

-- a power cut during a program leaves old AND (latch OR junk)
abbrev pub cut_while_programming : List ℕ → List ℕ → ℕ → ℕ → ℕ
cut_while_programming latch junk a old = bit_and old (bit_or (slice_index latch (a % 256)) (wrapped junk a))

-- a power cut during an erase leaves the junk
abbrev pub cut_while_erasing : List ℕ → ℕ → ℕ → ℕ
cut_while_erasing junk a old = wrapped junk a

-- the same rule for cells of which the first has the address base
abbrev pub from : ℕ → (ℕ → ℕ → ℕ) → ℕ → ℕ → ℕ
from base g a old = g (base + a) old
