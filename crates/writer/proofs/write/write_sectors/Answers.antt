use Rattle.std.proofs.Common.{◌≡◌, ℕ, ◌-◌, ◌/◌, Bool, false, ◌&&◌, List, length, get_or, ap, ◌∙◌, subst, rules, arith}
use Rattle.flash.specs.Meaning.{Meaning}
use Rattle.writer.specs.Needed.{placed, is_touched}
use Rattle.writer.specs.Put.{is_locked}
use Rattle.writer.proofs.Paging.{made_few}
use Rattle.writer.proofs.Parts.{turn, part_more}
use Rattle.writer.proofs.Placing.{begun}
use Rattle.writer.proofs.Walking.{piece_touches, SectorsMade, sectors_start, sectors_step, sectors_few}
use Rattle.writer.proofs.write.write_sectors.Goals as goal

pub loop-piece-init : goal.loop-piece-init
loop-piece-init g c =
    let m = g.F.NorFlash.meaning c.args.flash.now in
    let at = c.args.at in
    let bytes = c.args.bytes.now in
    let pieces = c.into_iter-piece-iterator.result in
    let all : pieces.rest.now ≡ bytes = search rules in
    let n = ap length all in
    let none : 0 ≡ length bytes - length pieces.rest.now = omega arith in (
      search rules,
      subst (λ (k : ℕ). SectorsMade at bytes k m m 0 0 0) none (sectors_start at bytes m (g.met.F.NorFlash.sound c.args.flash.now) c.requires.fits.ready),
    )

pub put_in_sector-p-requires-clause-free : goal.put_in_sector-p-requires-clause-free
put_in_sector-p-requires-clause-free g c =
    let m = g.F.NorFlash.meaning c.args.flash.now in
    let sectors = (g.met.F.NorFlash.sound c.args.flash.now).sectors in
    let at = c.args.at in
    let bytes = c.args.bytes.now in
    let piece = c.in-Some.piece in
    let pos = length bytes - length c.loop-piece.piece-iterator.rest.now in
    let part = (turn 4096 at bytes m.bytes c.loop-piece.piece-iterator c.next.new.self piece c.loop-piece.invariant.0 c.in-Some.ensures.steps c.requires.fits.within).part in
    let place = part.place in
    let inside = part.inside in
    let some = piece.some in
    let within = c.requires.fits.within in
    let sector = piece.at / 4096 in
    ap (λ (x : Meaning). is_locked x (placed piece.at piece.bytes.now x.bytes) sector) c.loop-piece.invariant.1.holds
    ∙ ap (λ (xs : List ℕ). get_or m.marks sector false && is_touched (begun at bytes pos m.bytes) xs sector) (part_more 4096 at bytes m.bytes pos piece part)
    ∙ ap (λ (b : Bool). get_or m.marks sector false && b) (piece_touches at bytes m.bytes pos piece part)
    ∙ c.requires.free sector (omega arith)

pub overflow_add-programs : goal.overflow_add-programs
overflow_add-programs g c =
    let so_far = sectors_few _ _ _ _ _ _ _ _ (g.met.F.NorFlash.sound c.args.flash.now) c.loop-piece.invariant.1 in
    let more = made_few _ _ _ _ _ _ (g.met.F.NorFlash.sound c.loop-piece.flash) c.put_in_sector-p.ensures in
    omega arith

pub overflow_add-erases : goal.overflow_add-erases
overflow_add-erases g c =
    let so_far = sectors_few _ _ _ _ _ _ _ _ (g.met.F.NorFlash.sound c.args.flash.now) c.loop-piece.invariant.1 in
    let more = made_few _ _ _ _ _ _ (g.met.F.NorFlash.sound c.loop-piece.flash) c.put_in_sector-p.ensures in
    omega arith

pub overflow_add-ticks : goal.overflow_add-ticks
overflow_add-ticks g c =
    let so_far = sectors_few _ _ _ _ _ _ _ _ (g.met.F.NorFlash.sound c.args.flash.now) c.loop-piece.invariant.1 in
    let more = made_few _ _ _ _ _ _ (g.met.F.NorFlash.sound c.loop-piece.flash) c.put_in_sector-p.ensures in
    omega arith

pub loop-piece-preserved : goal.loop-piece-preserved
loop-piece-preserved g c =
    let m = g.F.NorFlash.meaning c.args.flash.now in
    let at = c.args.at in
    let bytes = c.args.bytes.now in
    let piece = c.in-Some.piece in
    let is = turn 4096 at bytes m.bytes c.loop-piece.piece-iterator c.next.new.self piece c.loop-piece.invariant.0 c.in-Some.ensures.steps c.requires.fits.within in
    let cost = c.put_in_sector-p.result in
    (is.walk, sectors_step at bytes _ m (g.F.NorFlash.meaning c.loop-piece.flash) _ c.loop-piece.programs c.loop-piece.erases c.loop-piece.ticks cost.0 cost.1 cost.2 piece is.part c.loop-piece.invariant.1 c.put_in_sector-p.ensures _ is.on)
