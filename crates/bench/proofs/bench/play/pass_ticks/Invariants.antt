use Rattle.std.proofs.Common.{◌≡◌, ◌-◌}
use Rattle.ft25h08.specs.State.{chip_of}
use Rattle.bench.specs.Plays.{ticked}
use Rattle.bench.proofs.bench.play.pass_ticks.Given as goal

-- the ticks that are left make of this chip what all of them make of the first
abbrev pub invariant-loop : goal.invariant-loop
invariant-loop l = ticked (l.count - l.counter) (chip_of l.chip) ≡ ticked l.count (chip_of l.initial.chip)
