use Rattle.std.proofs.Common.{◌≡◌, ℕ, ◌/◌, Bool, false, ◌&&◌, get_or, sym, ap, ◌∙◌}
use Rattle.writer.specs.Needed.{placed, is_touched}
use Rattle.writer.proofs.Sectors.{in_sector, read_rises, kept_falls, made_nothing}
use Rattle.writer.proofs.sector.put_in_sector.Goals as goal

-- a protected sector is not touched
pub returns-then-is_marked : goal.returns-then-is_marked
returns-then-is_marked g c =
    let m = g.F.NorFlash.meaning c.args.flash.now in
    let at = c.args.piece.at in
    let bytes = c.args.piece.bytes.now in
    let marked = c.if-is_marked.ensures ∙ ap (λ (s : ℕ). get_or m.marks s false) c.sector.ensures in
    let none : is_touched m.bytes (placed at bytes m.bytes) (at / 4096) ≡ false = ap (λ (b : Bool). b && is_touched m.bytes (placed at bytes m.bytes) (at / 4096)) marked ∙ c.requires.free in
    made_nothing at bytes m (g.met.F.NorFlash.sound c.args.flash.now) c.requires.fits.ready c.args.piece.inside none

-- what was read tells whether the sector has to be erased
pub program_pages-programs-requires-clause-falls : goal.program_pages-programs-requires-clause-falls
program_pages-programs-requires-clause-falls g c =
    let old = (g.F.NorFlash.meaning c.args.flash.now).bytes in
    let at = c.args.piece.at in
    let bytes = c.args.piece.bytes.now in
    let fits = c.args.piece.inside in
    kept_falls (at / 4096) old (placed at bytes old) (in_sector at bytes old fits) (sym (c.if-not-any_rises.ensures ∙ read_rises at bytes old c.read_old-old.result.now c.read_old-old.ensures fits c.requires.fits.within))

pub rewrite-requires-clause-rises : goal.rewrite-requires-clause-rises
rewrite-requires-clause-rises g c =
    let old = (g.F.NorFlash.meaning c.args.flash.now).bytes in
    let at = c.args.piece.at in
    let bytes = c.args.piece.bytes.now in
    let fits = c.args.piece.inside in
    sym (c.if-not-any_rises.ensures ∙ read_rises at bytes old c.read_old-old.result.now c.read_old-old.ensures fits c.requires.fits.within)
