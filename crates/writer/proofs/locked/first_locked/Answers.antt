use Rattle.std.proofs.Common.{◌≡◌, ℕ, ◌-◌, ◌/◌, Bool, false, ◌&&◌, length, get_or, Some, sym, ap, ◌∙◌, arith}
use Rattle.cells.proofs.Spans.{first_found, first_none}
use Rattle.writer.specs.Needed.{placed}
use Rattle.writer.specs.Put.{is_locked}
use Rattle.writer.proofs.Parts.{turn}
use Rattle.writer.proofs.Walking.{piece_alone, free_more, free_before, free_all}
use Rattle.writer.proofs.locked.first_locked.Goals as goal

pub returns-then-is_locked : goal.returns-then-is_locked
returns-then-is_locked g c =
    let m = g.F.NorFlash.meaning c.args.flash.now in
    let sectors = (g.met.F.NorFlash.sound c.args.flash.now).sectors in
    let at = c.args.at in
    let bytes = c.args.bytes.now in
    let pos = length bytes - length c.loop-piece.piece-iterator.rest.now in
    let piece = c.in-Some.piece in
    let part = (turn 4096 at bytes m.bytes c.loop-piece.piece-iterator c.next.new.self piece c.loop-piece.invariant.0 c.in-Some.ensures.steps c.requires.within).part in
    let place = part.place in
    let inside = part.inside in
    let some = piece.some in
    let there = c.requires.within in
    ap (λ (s : ℕ). Some s) c.sector.ensures
    ∙ sym
    (first_found (is_locked m (placed at bytes m.bytes)) 0 (length m.marks) (piece.at / 4096) (omega arith) (omega arith)
    (sym (c.if-is_locked.ensures ∙ ap (λ (b : Bool). get_or m.marks (piece.at / 4096) false && b) (piece_alone at bytes m.bytes pos piece part)))
    (λ a low before. free_before at bytes pos m piece part c.loop-piece.invariant.1 a before))

pub loop-piece-preserved : goal.loop-piece-preserved
loop-piece-preserved g c =
    let m = g.F.NorFlash.meaning c.args.flash.now in
    let at = c.args.at in
    let bytes = c.args.bytes.now in
    let pos = length bytes - length c.loop-piece.piece-iterator.rest.now in
    let piece = c.in-Some.piece in
    let is = turn 4096 at bytes m.bytes c.loop-piece.piece-iterator c.next.new.self piece c.loop-piece.invariant.0 c.in-Some.ensures.steps c.requires.within in
    let here : is_locked m (placed at bytes m.bytes) (piece.at / 4096) ≡ false = sym (c.if-is_locked.ensures ∙ ap (λ (b : Bool). get_or m.marks (piece.at / 4096) false && b) (piece_alone at bytes m.bytes pos piece is.part)) in
    (is.walk, free_more at bytes pos m piece is.part c.loop-piece.invariant.1 here _ is.on)

pub returns : goal.returns
returns g c =
    let m = g.F.NorFlash.meaning c.args.flash.now in
    let at = c.args.at in
    let bytes = c.args.bytes.now in
    let none = c.in-None.ensures.steps in
    sym
    (first_none (is_locked m (placed at bytes m.bytes)) 0 (length m.marks)
    (λ a low high. free_all at bytes _ m (omega arith) c.loop-piece.invariant.1 a))
