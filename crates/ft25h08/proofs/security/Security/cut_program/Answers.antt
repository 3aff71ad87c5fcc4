use Rattle.std.proofs.Common.{◌≡◌, ◌*◌, length, refl, arith, rules}
use Rattle.cells.specs.Changes.{from, cut_while_programming}
use Rattle.ft25h08.proofs.Registering.{register_changed, no_fifth_register}
use Rattle.ft25h08.proofs.security.Security.cut_program.Goals as goal

pub returns-then-register-lt4 : goal.returns-then-register-lt4
returns-then-register-lt4 c =
    let four : length c.args.self.now.registers ≡ 4 = search rules in
    let g = cut_while_programming c.args.latch.now c.args.junk.now in
    register_changed c.args.self.now.registers c.args.register c.index-self-register.result c.cut_program.new.self (from (c.args.register * 256) g) g four (omega arith) c.cut_program.ensures (λ j old h. refl)

pub returns-else-register-lt4 : goal.returns-else-register-lt4
returns-else-register-lt4 c = no_fifth_register c.args.self.now c.args.register (cut_while_programming c.args.latch.now c.args.junk.now) (omega arith)
