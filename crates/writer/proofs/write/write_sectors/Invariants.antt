use Rattle.std.proofs.Common.{◌-◌, length}
use Rattle.writer.proofs.Parts.{Walk}
use Rattle.writer.proofs.Walking.{SectorsMade}
use Rattle.writer.proofs.write.write_sectors.Given as goal

-- the bytes before what is left stand
abbrev pub invariant-loop-piece : goal.invariant-loop-piece
invariant-loop-piece g l =
    Walk 4096 l.at l.bytes l.piece-iterator
    × SectorsMade l.at l.bytes (length l.bytes - length l.piece-iterator.rest.now) (g.F.NorFlash.meaning l.initial.flash) (g.F.NorFlash.meaning l.flash) l.programs l.erases l.ticks
