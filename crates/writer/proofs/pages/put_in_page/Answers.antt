use Rattle.std.proofs.Common.{ℕ, true, false, List, sym, ap, ◌∙◌, subst, arith}
use Rattle.writer.specs.Needed.{placed}
use Rattle.writer.specs.Put.{Made, holding}
use Rattle.writer.proofs.Placing.{holding-still}
use Rattle.writer.proofs.Paging.{page_programs, made_falling, placed_same}
use Rattle.writer.proofs.pages.put_in_page.Goals as goal

pub returns-then-not-differs : goal.returns-then-not-differs
returns-then-not-differs g c =
    let m = g.F.NorFlash.meaning c.args.flash.now in
    let sound = g.met.F.NorFlash.sound c.args.flash.now in
    let part = c.args.part in
    let none = c.if-not-differs.true in
    made_falling (placed part.at part.bytes.now m.bytes) m m 0 0 c.requires.falls
    (page_programs part m false c.args.differs sound c.requires.fits.within c.requires.falls c.requires.differs none)
    (omega arith)
    (holding-still m sound c.requires.fits.ready ∙ ap (λ (xs : List ℕ). holding xs 0 0 m) (placed_same part.at part.bytes.now m.bytes (sym c.requires.differs ∙ none)))

pub returns : goal.returns
returns g c =
    let m = g.F.NorFlash.meaning c.args.flash.now in
    let sound = g.met.F.NorFlash.sound c.args.flash.now in
    let part = c.args.part in
    let new = placed part.at part.bytes.now m.bytes in
    let after = g.F.NorFlash.meaning c.program.new.flash in
    subst (λ (cost : ℕ × ℕ). Made new m after (cost.0, 0, cost.1)) (sym c.program.ensures.cost)
    (made_falling new m after 1 m.program_ticks c.requires.falls
    (page_programs part m true c.args.differs sound c.requires.fits.within c.requires.falls c.requires.differs c.if-not-differs.false)
    (omega arith) c.program.ensures.after)
