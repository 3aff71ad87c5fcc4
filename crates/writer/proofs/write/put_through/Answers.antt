use Rattle.std.proofs.Common.{ℕ, length, sym, ap, arith}
use Rattle.cells.proofs.Spans.{none_first}
use Rattle.flash.specs.Meaning.{Meaning}
use Rattle.writer.specs.Needed.{placed}
use Rattle.writer.specs.Put.{is_locked}
use Rattle.writer.proofs.Fewest.{fewest}
use Rattle.writer.proofs.write.put_through.Goals as goal

-- no sector is locked, since there is no first one
pub write_sectors-requires-clause-free : goal.write_sectors-requires-clause-free
write_sectors-requires-clause-free g c sector h =
    let m = g.F.NorFlash.meaning c.args.flash.now in
    none_first (is_locked m (placed c.args.at c.args.bytes.now m.bytes)) 0 (length m.marks) (sym c.in_default.ensures) sector (omega arith) (omega arith)

pub returns-clause-fewest : goal.returns-clause-fewest
returns-clause-fewest g c =
    let m = g.F.NorFlash.meaning c.args.flash.now in
    let new = placed c.args.at c.args.bytes.now m.bytes in
    let spent = c.write_sectors.ensures.spent in
    let holds = c.write_sectors.ensures.holds in
    fewest m.bytes new (g.F.NorFlash.meaning c.write_sectors.new.flash).bytes c.write_sectors.result.1 (ap (λ (t : ℕ × ℕ × ℕ). t.1) spent) (ap (λ (x : Meaning). x.bytes) holds)
