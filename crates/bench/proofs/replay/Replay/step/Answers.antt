use Rattle.std.proofs.Common.{◌+◌, length, sym}
use Rattle.std.proofs.lemmas.Bool.{eqb-true, eqb-false}
use Rattle.bench.specs.Gathered.{text_of}
use Rattle.bench.specs.Plays.{printed}
use Rattle.bench.specs.Replays.{replay_of, last_text, Place}
use Rattle.bench.specs.States.{bench_of}
use Rattle.bench.specs.Texts.{fault_text}
use Rattle.bench.proofs.Replaying.{owes_last, owes_fault, owes_refused, owes_on, last_piece, next_piece}
use Rattle.bench.proofs.replay.Replay.step.Goals as goal

pub returns-then-is_empty-clause-piece : goal.returns-then-is_empty-clause-piece
returns-then-is_empty-clause-piece c =
    let trace = c.args.trace.now in
    let p = replay_of c.clock.new.self in
    let none = eqb-true (length c.rest_of-rest.result.now) 0 (sym c.if-is_empty.ensures) in
    last_piece trace (replay_of c.args.self.now) p p (text_of c.args.out.now) (text_of c.end.new.out) (last_text p) c.clock.ensures.same c.in_ok-end.ensures (owes_last trace c.rest_of-rest.result.now p c.rest_of-rest.ensures none)

pub returns-in_default-clause-piece : goal.returns-in_default-clause-piece
returns-in_default-clause-piece c =
    let trace = c.args.trace.now in
    let p = replay_of c.clock.new.self in
    let some = eqb-false (length c.rest_of-rest.result.now) 0 (sym c.if-is_empty.ensures) in
    last_piece trace (replay_of c.args.self.now) p p (text_of c.args.out.now) (text_of c.push_fault.new.self) (fault_text p.offset) c.clock.ensures.same c.in_ok-push_fault.ensures (owes_fault trace c.rest_of-rest.result.now p c.rest_of-rest.ensures some (sym c.in_default.ensures))

pub returns-then-not-allows-clause-piece : goal.returns-then-not-allows-clause-piece
returns-then-not-allows-clause-piece c =
    let trace = c.args.trace.now in
    let p = replay_of c.clock.new.self in
    last_piece trace (replay_of c.args.self.now) p p (text_of c.args.out.now) (text_of c.push_fault-then-not-allows.new.self) (fault_text p.offset) c.clock.ensures.same c.in_ok-push_fault-2.ensures (owes_refused trace c.rest_of-rest.result.now p c.in-Some.record c.rest_of-rest.ensures (sym c.in-Some.ensures) (sym c.if-not-allows.ensures))

pub returns-clause-piece : goal.returns-clause-piece
returns-clause-piece c =
    let trace = c.args.trace.now in
    let p = replay_of c.clock.new.self in
    let r = c.in-Some.record in
    let b = bench_of c.play.new.self in
    let after : Place = record { bench = bench_of c.play.new.self; offset = c.clock.new.self.offset + c.len.result; lines = c.clock.new.self.lines + c.lines.result } in
    next_piece trace (replay_of c.args.self.now) p after (text_of c.args.out.now) (text_of c.play.new.out) (printed r (p.lines + 1) p.bench) c.clock.ensures.same c.in_ok-play.ensures.text
    (owes_on trace c.rest_of-rest.result.now p b r c.len.result c.lines.result c.rest_of-rest.ensures (sym c.in-Some.ensures) (sym c.if-not-allows.ensures) c.in_ok-play.ensures.state c.len.ensures.value c.lines.ensures.value)
