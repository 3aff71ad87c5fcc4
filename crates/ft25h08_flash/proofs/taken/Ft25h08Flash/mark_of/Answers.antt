use Rattle.std.proofs.Common.{sym, ◌∙◌, arith}
use Rattle.ft25h08_flash.proofs.Starting.{sector_marked}
use Rattle.ft25h08_flash.proofs.taken.Ft25h08Flash.mark_of.Goals as goal

pub returns-then-sector-sectors : goal.returns-then-sector-sectors
returns-then-sector-sectors c =
    let count = c.sectors.ensures.count in
    c.is_marked.ensures ∙ sym (sector_marked c.args.self.now c.args.sector (omega arith))
