use Rattle.std.proofs.Common.{◌≡◌, length, w16, SFits, rules}
use Rattle.std.proofs.lemmas.Int.{to_z-of_z}
use Rattle.rows.specs.Numbers.{offset_fits}
use Rattle.rows.specs.TemperatureRows.{row_of_six, temperature_reads}
use Rattle.rows.proofs.temperature.calls.TemperatureRow.read.Goals as goal

pub returns : goal.returns
returns c =
    let bs = c.args.from.now in
    let t = c.from_le_bytes-tenths.result in
    let o = c.in_ok-offset.offset in
    let from = c.in_ok-offset.ensures in
    let f : SFits w16 t = search rules in
    let g = offset_fits o from.0 in
    let long : length bs ≡ 6 = search rules in
    let row = row_of_six bs t o _ long c.if-kind-ne84.false c.from_le_bytes-tenths.ensures from.1 from.2 c.from_le_bytes-magnitude.ensures c.type_inv.from in
    let made = simp to_z-of_z at c.new.ensures in
    temperature_reads bs t o c.new.result row f from.0 made
