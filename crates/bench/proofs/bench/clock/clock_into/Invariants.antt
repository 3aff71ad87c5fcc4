use Rattle.std.proofs.Common.{◌-◌, ◌≤◌, length}
use Rattle.bench.proofs.Clocking.{Clocking}
use Rattle.bench.proofs.bench.clock.clock_into.Given as goal

-- as many byte records are clocked in as the frame has grown by
abbrev pub invariant-loop-byte : goal.invariant-loop-byte
invariant-loop-byte l =
    (length l.initial.frame.items ≤ length l.frame.items)
    × Clocking (length l.frame.items - length l.initial.frame.items) l.rest l.left l.initial.frame.items l.frame.items

abbrev pub decreases-loop-byte : goal.decreases-loop-byte
decreases-loop-byte l = length l.left
