use Rattle.std.proofs.Common.{sym}
use Rattle.bench.specs.Replays.{replay_of}
use Rattle.bench.specs.States.{bench_of}
use Rattle.bench.proofs.Replaying.{clocked_owes}
use Rattle.bench.proofs.replay.Replay.clock.Goals as goal

pub returns-then-is_selected-clause-same : goal.returns-then-is_selected-clause-same
returns-then-is_selected-clause-same c =
    clocked_owes c.args.trace.now c.rest_of.result.now (replay_of c.args.self.now) (bench_of c.clock-n.new.self) c.clock-n.result (sym c.if-is_selected.ensures) c.rest_of.ensures c.clock-n.ensures.clocked c.clock-n.ensures.chip c.clock-n.ensures.selected
