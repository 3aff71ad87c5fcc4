use Rattle.std.proofs.Common.{ℕ, ◌/◌, Bool, false, ◌&&◌, get_or, ap, ◌∙◌}
use Rattle.writer.specs.Needed.{placed, is_touched}
use Rattle.writer.proofs.Sectors.{read_differs}
use Rattle.writer.proofs.locked.is_locked.Goals as goal

-- what was read tells whether the sector is touched, and it is protected
pub returns : goal.returns
returns g c =
    let m = g.F.NorFlash.meaning c.args.flash.now in
    let at = c.args.piece.at in
    let bytes = c.args.piece.bytes.now in
    let fits = c.args.piece.inside in
    let marked = c.if-not-is_marked.ensures ∙ ap (λ (s : ℕ). get_or m.marks s false) c.sector.ensures in
    c.any_differs.ensures
    ∙ read_differs at bytes m.bytes c.read_old-old.result.now c.read_old-old.ensures fits c.requires.within
    ∙ ap (λ (b : Bool). b && is_touched m.bytes (placed at bytes m.bytes) (at / 4096)) marked
