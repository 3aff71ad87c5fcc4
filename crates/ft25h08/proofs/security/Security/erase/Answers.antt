use Rattle.std.proofs.Common.{◌≡◌, length, refl, arith, rules}
use Rattle.cells.specs.Changes.{erased}
use Rattle.cells.proofs.Ranges.{changed_none}
use Rattle.ft25h08.proofs.Registering.{next_changed}
use Rattle.ft25h08.proofs.security.Security.erase.Goals as goal

pub loop-register-init : goal.loop-register-init
loop-register-init c = changed_none 0 erased _

pub loop-register-preserved : goal.loop-register-preserved
loop-register-preserved c =
    let four : length c.loop-register.register-items ≡ 4 = search rules in
    next_changed c.args.self.now.registers c.loop-register.register-items c.loop-register.register-index c.register-item.result c.erase.new.self erased erased
    four (omega arith) c.erase.ensures (λ j old h. refl) c.loop-register.invariant
