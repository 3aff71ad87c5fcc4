-- What has to be done so that a flash that holds the bytes `old` holds the bytes `new`, and how often.
use Rattle.std.specs.Prelude.{◌≡◌, ℕ, ◌*◌, ◌/◌, Bool, false, cond, not, List, length, ◌==◌, slice_index}
use Rattle.cells.specs.Bits.{rises}
use Rattle.cells.specs.Bytes.{changed}
use Rattle.cells.specs.Changes.{replaced}
use Rattle.cells.specs.Tests.{any_in, how_many}

-- bytes put at an address: they stand there, and every other byte is as it was
abbrev pub placed : ℕ → List ℕ → List ℕ → List ℕ
placed at bytes old = changed at (length bytes) (replaced at bytes) old

-- the byte at a has to change
abbrev pub differs_at : List ℕ → List ℕ → ℕ → Bool
differs_at old new a = not (slice_index old a == slice_index new a)

-- some bit of the byte at a has to go from 0 to 1
abbrev pub rises_at : List ℕ → List ℕ → ℕ → Bool
rises_at old new a = rises (slice_index old a) (slice_index new a)

-- no bit has to go from 0 to 1
abbrev pub Falls : List ℕ → List ℕ → Type 0
Falls old new = (a : ℕ) → rises_at old new a ≡ false

-- the byte at a is not FF
abbrev pub written_at : List ℕ → ℕ → Bool
written_at new a = not (255 == slice_index new a)

-- a sector, 4,096 bytes, is touched if a byte in it has to change
abbrev pub is_touched : List ℕ → List ℕ → ℕ → Bool
is_touched old new sector = any_in (differs_at old new) (sector * 4096) 4096

-- it is erased exactly if some bit in it has to go from 0 to 1
abbrev pub must_erase : List ℕ → List ℕ → ℕ → Bool
must_erase old new sector = any_in (rises_at old new) (sector * 4096) 4096

-- a page, 256 bytes, of a sector that is erased is programmed unless all of it is to be FF; any other if a byte in it
-- has to change
abbrev pub must_program : List ℕ → List ℕ → ℕ → Bool
must_program old new page =
    cond (must_erase old new (page / 16)) (any_in (written_at new) (page * 256) 256) (any_in (differs_at old new) (page * 256) 256)

-- so many pages are programmed, and so many sectors erased
abbrev pub programs_for : List ℕ → List ℕ → ℕ
programs_for old new = how_many (must_program old new) (length old / 256)

abbrev pub erases_for : List ℕ → List ℕ → ℕ
erases_for old new = how_many (must_erase old new) (length old / 4096)
