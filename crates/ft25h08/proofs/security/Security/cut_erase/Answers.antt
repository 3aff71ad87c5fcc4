use Rattle.std.proofs.Common.{◌≡◌, ◌*◌, length, refl, arith, rules}
use Rattle.cells.specs.Changes.{cut_while_erasing, from}
use Rattle.cells.proofs.Ranges.{changed_none}
use Rattle.ft25h08.proofs.Registering.{next_changed}
use Rattle.ft25h08.proofs.security.Security.cut_erase.Goals as goal

pub loop-r-init : goal.loop-r-init
loop-r-init c = changed_none 0 (cut_while_erasing c.args.junk.now) _

pub loop-r-preserved : goal.loop-r-preserved
loop-r-preserved c =
    let r = c.loop-r.r in
    let g = cut_while_erasing c.args.junk.now in
    let four : length c.loop-r.register-items ≡ 4 = search rules in
    next_changed c.args.self.now.registers c.loop-r.register-items r c.register-item.result c.cut_erase.new.self (from (r * 256) g) g
    four (omega arith) c.cut_erase.ensures (λ j old h. refl) c.loop-r.invariant
