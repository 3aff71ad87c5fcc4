use Rattle.std.proofs.Common.{◌+◌, ◌-◌, sym, ap, ◌∙◌, arith}
use Rattle.ft25h08.specs.State.{chip_of}
use Rattle.bench.specs.Plays.{ticked}
use Rattle.bench.proofs.Ticking.{still, ticked-still, ticked_none, ticked_one}
use Rattle.bench.proofs.bench.play.pass_ticks.Goals as goal

pub loop-preserved : goal.loop-preserved
loop-preserved c =
    let left = c.args.count - (c.loop.counter + 1) in
    ap (ticked left) c.tick_busy.ensures.after
    ∙ sym (ticked_one (c.args.count - c.loop.counter) left (chip_of c.loop.chip) (omega arith))
    ∙ c.loop.invariant

pub returns-after-loop : goal.returns-after-loop
returns-after-loop c = sym (ticked_none (c.args.count - c.loop.counter) (chip_of c.loop.chip) (omega arith)) ∙ c.loop.invariant

pub returns-then-not-tick_busy : goal.returns-then-not-tick_busy
returns-then-not-tick_busy c =
    let x = chip_of c.loop.chip in
    let told = c.if-not-tick_busy.ensures in
    let idle = sym told.answer in
    told.after ∙ still x.activity x idle ∙ sym (ticked-still (c.args.count - c.loop.counter) x idle) ∙ c.loop.invariant
