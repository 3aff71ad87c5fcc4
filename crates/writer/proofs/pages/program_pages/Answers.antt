use Rattle.std.proofs.Common.{◌≡◌, ℕ, ◌-◌, List, length, sym, ap, ◌∙◌, subst, rules, arith}
use Rattle.cells.specs.Tests.{any_in}
use Rattle.flash.specs.Meaning.{Meaning}
use Rattle.writer.specs.Before.{byte_before}
use Rattle.writer.specs.Needed.{Falls, placed, differs_at}
use Rattle.writer.proofs.Paging.{PagesMade, pages_start, pages_step, pages_done, step_falls, part_changes, pages_few, made_few}
use Rattle.writer.proofs.Parts.{turn}
use Rattle.writer.proofs.pages.program_pages.Goals as goal

pub loop-part-init : goal.loop-part-init
loop-part-init g c =
    let m = g.F.NorFlash.meaning c.args.flash.now in
    let at = c.args.piece.at in
    let bytes = c.args.piece.bytes.now in
    let parts = c.into_iter-part-iterator.result in
    let all : parts.rest.now ≡ bytes = search rules in
    let n = ap length all in
    let none : 0 ≡ length bytes - length parts.rest.now = omega arith in (
      search rules,
      subst (λ (k : ℕ). PagesMade at bytes k m m 0 0) none (pages_start at bytes m (g.met.F.NorFlash.sound c.args.flash.now) c.requires.fits.ready),
    )

pub put_in_page-more-requires-clause-falls : goal.put_in_page-more-requires-clause-falls
put_in_page-more-requires-clause-falls g c =
    let m = g.F.NorFlash.meaning c.args.flash.now in
    let at = c.args.piece.at in
    let bytes = c.args.piece.bytes.now in
    let part = c.in-Some.part in
    let is = turn 256 at bytes m.bytes c.loop-part.part-iterator c.next.new.self part c.loop-part.invariant.0 c.in-Some.ensures.steps c.requires.fits.within in
    let held = ap (λ (x : Meaning). x.bytes) c.loop-part.invariant.1.holds in
    subst (λ (xs : List ℕ). Falls xs (placed part.at part.bytes.now xs)) (sym held) (step_falls at bytes _ m.bytes part is.part c.requires.falls)

pub put_in_page-more-requires-clause-differs : goal.put_in_page-more-requires-clause-differs
put_in_page-more-requires-clause-differs g c =
    let m = g.F.NorFlash.meaning c.args.flash.now in
    let at = c.args.piece.at in
    let bytes = c.args.piece.bytes.now in
    let part = c.in-Some.part in
    let is = turn 256 at bytes m.bytes c.loop-part.part-iterator c.next.new.self part c.loop-part.invariant.0 c.in-Some.ensures.steps c.requires.fits.within in
    let held = ap (λ (x : Meaning). x.bytes) c.loop-part.invariant.1.holds in
    let place = is.part.place in
    c.part_differs-differs.ensures
    ∙ part_changes at bytes _ m.bytes (byte_before c.args.before) part is.part c.requires.before (part.at - at) (omega arith)
    ∙ ap (λ (xs : List ℕ). any_in (differs_at xs (placed part.at part.bytes.now xs)) part.at (length part.bytes.now)) (sym held)

pub overflow_add-programs : goal.overflow_add-programs
overflow_add-programs g c =
    let short = c.loop-part.invariant.0.short in
    let so_far = pages_few _ _ _ _ _ _ _ c.requires.fits.within (omega arith) (g.met.F.NorFlash.sound c.args.flash.now) c.requires.falls c.loop-part.invariant.1 in
    let more = made_few _ _ _ _ _ _ (g.met.F.NorFlash.sound c.loop-part.flash) c.put_in_page-more.ensures in
    omega arith

pub overflow_add-ticks : goal.overflow_add-ticks
overflow_add-ticks g c =
    let short = c.loop-part.invariant.0.short in
    let so_far = pages_few _ _ _ _ _ _ _ c.requires.fits.within (omega arith) (g.met.F.NorFlash.sound c.args.flash.now) c.requires.falls c.loop-part.invariant.1 in
    let more = made_few _ _ _ _ _ _ (g.met.F.NorFlash.sound c.loop-part.flash) c.put_in_page-more.ensures in
    omega arith

pub loop-part-preserved : goal.loop-part-preserved
loop-part-preserved g c =
    let m = g.F.NorFlash.meaning c.args.flash.now in
    let at = c.args.piece.at in
    let bytes = c.args.piece.bytes.now in
    let part = c.in-Some.part in
    let is = turn 256 at bytes m.bytes c.loop-part.part-iterator c.next.new.self part c.loop-part.invariant.0 c.in-Some.ensures.steps c.requires.fits.within in
    (is.walk, pages_step at bytes _ m (g.F.NorFlash.meaning c.loop-part.flash) _ c.loop-part.programs c.loop-part.ticks c.put_in_page-more.result.0 c.put_in_page-more.result.1 part is.part c.requires.falls c.loop-part.invariant.1 c.put_in_page-more.ensures _ is.on)

pub returns : goal.returns
returns g c =
    let none = c.in-None.ensures.steps in
    pages_done c.args.piece.at c.args.piece.bytes.now _ (g.F.NorFlash.meaning c.args.flash.now) (g.F.NorFlash.meaning c.loop-part.flash) c.loop-part.programs c.loop-part.ticks
    (omega arith) c.requires.falls c.loop-part.invariant.1
