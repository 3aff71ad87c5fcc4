-- The bits of a byte, and which of them a program cannot bring about.
use Rattle.std.specs.Prelude.{ℕ, ◌/◌, ◌%◌, ◌^◌, Bool, ◌&&◌, ◌==◌}
use Rattle.cells.specs.Tests.{any_in}

-- bit k of a byte, bit 0 being the lowest
abbrev pub bit_of : ℕ → ℕ → ℕ
bit_of k byte = byte / 2 ^ k % 2

-- bit k goes from 0 to 1
abbrev pub rises_in : ℕ → ℕ → ℕ → Bool
rises_in old new k = bit_of k old == 0 && bit_of k new == 1

-- some bit of a byte goes from 0 to 1
unfoldable pub rises : ℕ → ℕ → Bool
rises old new = any_in (rises_in old new) 0 8
