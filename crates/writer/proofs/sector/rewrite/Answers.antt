use Rattle.std.proofs.Common.{◌≡◌, ℕ, ◌+◌, ◌*◌, ◌/◌, ◌≤◌, List, length, get_or, sym, ap, ◌∙◌, subst, rules, arith}
use Rattle.flash.specs.Meaning.{Meaning}
use Rattle.writer.specs.Needed.{Falls, placed}
use Rattle.writer.specs.Pieces.{composed}
use Rattle.writer.specs.Put.{Made, holding}
use Rattle.writer.proofs.Paging.{made_few}
use Rattle.writer.proofs.Sectors.{in_sector, blanked, blanked_in, blanked_falls, whole_placed, rewrite_made}
use Rattle.writer.proofs.sector.rewrite.Goals as goal

pub program_pages-programs-requires-clause-falls : goal.program_pages-programs-requires-clause-falls
program_pages-programs-requires-clause-falls g c =
    let old = (g.F.NorFlash.meaning c.args.flash.now).bytes in
    let sectors = (g.met.F.NorFlash.sound c.args.flash.now).sectors in
    let at = c.args.piece.at in
    let bytes = c.args.piece.bytes.now in
    let some = c.args.piece.some in
    let fits = c.args.piece.inside in
    let within = c.requires.fits.within in
    let there : at / 4096 * 4096 + 4096 ≤ length old = omega arith in
    let whole = c.whole.result in
    let is : whole.bytes.now ≡ composed at bytes old = c.whole.ensures.bytes ∙ c.compose.ensures in
    let held = ap (λ (x : Meaning). x.bytes) c.erase-erases.ensures.after ∙ ap (λ (s : ℕ). blanked s old) c.sector-sector.ensures in
    let becomes = whole_placed at bytes old whole.at whole.bytes.now fits there (search rules) is (ap length c.whole.ensures.bytes ∙ c.compose.array_long) in
    subst (λ (xs : List ℕ). Falls xs (placed whole.at whole.bytes.now xs)) (sym held)
    (subst (λ (xs : List ℕ). Falls (blanked (at / 4096) old) xs) (sym becomes) (blanked_falls (at / 4096) old (placed at bytes old) there (in_sector at bytes old fits)))

pub program_pages-programs-requires-clause-before : goal.program_pages-programs-requires-clause-before
program_pages-programs-requires-clause-before g c k h =
    let old = (g.F.NorFlash.meaning c.args.flash.now).bytes in
    let sectors = (g.met.F.NorFlash.sound c.args.flash.now).sectors in
    let at = c.args.piece.at in
    let some = c.args.piece.some in
    let within = c.requires.fits.within in
    let whole = c.whole.result in
    let held = ap (λ (x : Meaning). x.bytes) c.erase-erases.ensures.after in
    sym (ap (λ (xs : List ℕ). get_or xs (whole.at + k) 0) held ∙ blanked_in c.sector-sector.result old (whole.at + k) (omega arith) (omega arith) (omega arith))

pub overflow_add-result : goal.overflow_add-result
overflow_add-result g c =
    let sound = g.met.F.NorFlash.sound c.args.flash.now in
    let after = made_few _ _ _ _ _ _ (g.met.F.NorFlash.sound c.erase-erases.new.flash) c.program_pages-programs.ensures in
    let spent = ap (λ (cost : ℕ × ℕ). cost.1) c.erase-erases.ensures.cost in
    omega arith

pub returns : goal.returns
returns g c =
    let m = g.F.NorFlash.meaning c.args.flash.now in
    let old = m.bytes in
    let sectors = (g.met.F.NorFlash.sound c.args.flash.now).sectors in
    let here = g.F.NorFlash.meaning c.erase-erases.new.flash in
    let after = g.F.NorFlash.meaning c.program_pages-programs.new.flash in
    let at = c.args.piece.at in
    let bytes = c.args.piece.bytes.now in
    let some = c.args.piece.some in
    let fits = c.args.piece.inside in
    let within = c.requires.fits.within in
    let there : at / 4096 * 4096 + 4096 ≤ length old = omega arith in
    let whole = c.whole.result in
    let programs = c.program_pages-programs.result.0 in
    let ticks = c.program_pages-programs.result.1 in
    let is : whole.bytes.now ≡ composed at bytes old = c.whole.ensures.bytes ∙ c.compose.ensures in
    let erased : here ≡ holding (blanked (at / 4096) old) 0 1 m = c.erase-erases.ensures.after ∙ ap (λ (s : ℕ). holding (blanked s old) 0 1 m) c.sector-sector.ensures in
    let becomes = ap (λ (x : Meaning). placed whole.at whole.bytes.now x.bytes) erased ∙ whole_placed at bytes old whole.at whole.bytes.now fits there (search rules) is (ap length c.whole.ensures.bytes ∙ c.compose.array_long) in
    let made = subst (λ (xs : List ℕ). Made xs here after (programs, 0, ticks)) becomes c.program_pages-programs.ensures in
    subst (λ (cost : ℕ × ℕ). Made (placed at bytes old) m after (programs, cost.0, cost.1 + ticks)) (sym c.erase-erases.ensures.cost)
    (rewrite_made (at / 4096) (placed at bytes old) m here after programs ticks there (in_sector at bytes old fits) c.requires.rises erased made)
