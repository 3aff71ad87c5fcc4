use Rattle.std.proofs.Common.{◌≡◌, ◌*◌}
use Rattle.cells.specs.Bytes.{changed}
use Rattle.cells.specs.Changes.{cut_while_erasing}
use Rattle.ft25h08.specs.Registers.{security_of}
use Rattle.ft25h08.proofs.security.Security.cut_erase.Given as goal

-- the registers before this one are done
abbrev pub invariant-loop-r : goal.invariant-loop-r
invariant-loop-r l = security_of (record { registers = l.register-items }) ≡ changed 0 (l.r * 256) (cut_while_erasing l.junk) (security_of (record { registers = l.initial.register-items }))
