use Rattle.std.proofs.Common.{◌/◌, ◌∙◌, arith, rules}
use Rattle.cells.proofs.Ranges.{counted_all}
use Rattle.ft25h08.specs.Registers.{security_of, no_register}
use Rattle.ft25h08.specs.declared.security.Security.{Security}
use Rattle.ft25h08.proofs.Registering.{length_security, get_or_security}
use Rattle.ft25h08.proofs.security.Security.new.Goals as goal

pub returns : goal.returns
returns c =
    let s : Security = record { registers = c.from_fn.result } in
    counted_all (λ _. 255) 1024 (security_of s) (length_security s)
    (λ a lt. get_or_security s a lt ∙ (let call = c.from_fn.ensures.items.at (a / 256) no_register (omega arith) in search rules))
