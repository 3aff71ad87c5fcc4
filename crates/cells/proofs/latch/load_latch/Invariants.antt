use Rattle.std.proofs.Common.{◌≡◌, ℕ, ◌+◌, ◌<◌, length, get_or, drop}
use Rattle.cells.specs.Latch.{latch_byte}
use Rattle.cells.proofs.latch.load_latch.Given as goal

-- what is left of the data bytes makes each latch byte what all of them make it
abbrev pub invariant-loop-i : goal.invariant-loop-i
invariant-loop-i l =
    (length l.latch ≡ 256)
    × ((o : ℕ) → o < 256 → latch_byte (l.at + l.i) (drop l.i l.bytes) o (get_or l.latch o 0) ≡ latch_byte l.at l.bytes o 255)
