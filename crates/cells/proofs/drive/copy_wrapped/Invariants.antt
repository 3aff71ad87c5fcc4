use Rattle.std.proofs.Common.{◌≡◌, ℕ, ◌+◌, ◌-◌, ◌%◌, ◌<◌, ◌≤◌, length, get_or}
use Rattle.cells.specs.Bytes.{wrapped}
use Rattle.cells.proofs.drive.copy_wrapped.Given as goal

-- the bytes before pos are copied, and the next stretch begins where they end
abbrev pub invariant-loop-pos : goal.invariant-loop-pos
invariant-loop-pos l =
    (l.pos ≤ length l.initial.part)
    × (l.next < length l.cells)
    × (l.pos < length l.initial.part → (l.start + l.pos) % length l.cells ≡ l.next)
    × ((k : ℕ) → k < l.pos → get_or l.part k 0 ≡ wrapped l.cells (l.start + k))

abbrev pub decreases-loop-pos : goal.decreases-loop-pos
decreases-loop-pos l = length l.initial.part - l.pos
