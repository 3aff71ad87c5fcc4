use Rattle.std.proofs.Common.{◌-◌, length}
use Rattle.writer.proofs.Paging.{PagesMade}
use Rattle.writer.proofs.Parts.{Walk}
use Rattle.writer.proofs.pages.program_pages.Given as goal

-- the bytes before what is left stand
abbrev pub invariant-loop-part : goal.invariant-loop-part
invariant-loop-part g l =
    Walk 256 l.piece.at l.piece.bytes.now l.part-iterator
    × PagesMade l.piece.at l.piece.bytes.now (length l.piece.bytes.now - length l.part-iterator.rest.now) (g.F.NorFlash.meaning l.initial.flash) (g.F.NorFlash.meaning l.flash) l.programs l.ticks
