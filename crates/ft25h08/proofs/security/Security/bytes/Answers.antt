use Rattle.std.proofs.Common.{◌≡◌, ◌+◌, ◌-◌, ◌*◌, length, arith, rules}
use Rattle.cells.proofs.Ranges.{counted_all}
use Rattle.ft25h08.specs.Registers.{security_of, register_byte}
use Rattle.ft25h08.proofs.Registering.{next_copied}
use Rattle.ft25h08.proofs.security.Security.bytes.Goals as goal

pub loop-r-preserved : goal.loop-r-preserved
loop-r-preserved c =
    let r = c.loop-r.r in
    let four : length c.args.self.now.registers ≡ 4 = search rules in
    let n : r * 256 + 256 - r * 256 ≡ 256 = omega arith in
    next_copied c.args.self.now c.loop-r.bytes c.copy_from_slice.new.self r (r * 256 + 256 - r * 256) c.register-item.result four (omega arith) n c.loop-r.invariant.0 c.copy_from_slice.ensures.after c.loop-r.invariant.1

pub returns : goal.returns
unfolding security_of
returns c =
    let four : length c.args.self.now.registers ≡ 4 = search rules in
    counted_all (register_byte c.args.self.now) 1024 c.loop-r.bytes c.loop-r.invariant.0 (λ a h. c.loop-r.invariant.1 a (omega arith))
