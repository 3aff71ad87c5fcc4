use Rattle.std.proofs.Common.{◌≡◌, ℕ, ◌+◌, ◌*◌, ◌%◌, length, get_or, ap, arith, rules}
use lib.Bits.{bit_and}
use Rattle.cells.specs.Changes.{programmed}
use Rattle.ft25h08.proofs.Registering.{register_changed, no_fifth_register}
use Rattle.ft25h08.proofs.security.Security.program.Goals as goal

pub returns-then-register-lt4 : goal.returns-then-register-lt4
returns-then-register-lt4 c =
    let four : length c.args.self.now.registers ≡ 4 = search rules in
    let g = programmed c.args.latch.now in
    register_changed c.args.self.now.registers c.args.register c.index-self-register.result c.program.new.self g g four (omega arith) c.program.ensures
    (λ j old h. let m : j % 256 ≡ (c.args.register * 256 + j) % 256 = omega arith in ap (λ (i : ℕ). bit_and old (get_or c.args.latch.now i 0)) m)

pub returns-else-register-lt4 : goal.returns-else-register-lt4
returns-else-register-lt4 c = no_fifth_register c.args.self.now c.args.register (programmed c.args.latch.now) (omega arith)
