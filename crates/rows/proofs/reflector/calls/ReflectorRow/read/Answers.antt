use Rattle.std.proofs.Common.{◌≡◌, length, length-drop, length-take, w16, SFits, arith, rules}
use Rattle.std.proofs.lemmas.Int.{to_z-of_z}
use Rattle.rows.specs.ReflectorRows.{row_of_eleven, reflector_reads}
use Rattle.rows.proofs.reflector.calls.ReflectorRow.read.Goals as goal

pub returns : goal.returns
returns c =
    let bs = c.args.from.now in
    let name = c.in-Ok.name in
    let o = c.from_le_bytes.result in
    let part = c.in-Ok.ensures.1 in
    let f : SFits w16 o = search rules in
    let long : length bs ≡ 11 = omega (arith, simp (length-take, length-drop) at part.long) in
    let eight : length name ≡ 8 = search rules in
    let row = row_of_eleven bs name o long c.if-kind-ne82.false (rw long at part.same) (rw long at c.from_le_bytes.ensures) c.type_inv.from in
    reflector_reads bs name o c.new.result row long eight f (simp to_z-of_z at c.new.ensures)
