use Rattle.std.proofs.Common.{length, ◌-◌}
use Rattle.writer.proofs.Parts.{Walk}
use Rattle.writer.proofs.Walking.{FreeTo}
use Rattle.writer.proofs.locked.first_locked.Given as goal

-- no sector before what is left is locked
abbrev pub invariant-loop-piece : goal.invariant-loop-piece
invariant-loop-piece g l =
    Walk 4096 l.at l.bytes l.piece-iterator
    × FreeTo l.at l.bytes (length l.bytes - length l.piece-iterator.rest.now) (g.F.NorFlash.meaning l.flash)
