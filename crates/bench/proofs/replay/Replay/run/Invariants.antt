use Rattle.std.proofs.Common.{◌-◌, true, length}
use Rattle.bench.specs.Gathered.{text_of}
use Rattle.bench.specs.Replays.{replay_of, Piece}
use Rattle.bench.proofs.replay.Replay.run.Given as goal

-- what was printed so far is a piece
abbrev pub invariant-loop-self : goal.invariant-loop-self
invariant-loop-self l = Piece l.trace (replay_of l.initial.self) (replay_of l.self) (text_of l.initial.out) (text_of l.out) true

abbrev pub decreases-loop-self : goal.decreases-loop-self
decreases-loop-self l = length l.trace - l.self.offset
