use Rattle.std.proofs.Common.{◌≡◌, ◌+◌}
use Rattle.flash.specs.Meaning.{settled}
use Rattle.flash.proofs.traits.wait.Given as goal

-- the ticks so far and those left are the ticks at first, and the flash comes to the same rest
abbrev pub invariant-loop-flash : goal.invariant-loop-flash
invariant-loop-flash g l =
    let f = g.F.NorFlash in
    (l.ticks + (f.meaning l.flash).left ≡ (f.meaning l.initial.flash).left)
    × (settled (f.meaning l.flash) ≡ settled (f.meaning l.initial.flash))

abbrev pub decreases-loop-flash : goal.decreases-loop-flash
decreases-loop-flash g l = (g.F.NorFlash.meaning l.flash).left
