use Rattle.std.proofs.Common.{◌≡◌, ◌*◌}
use Rattle.cells.specs.Bytes.{changed}
use Rattle.cells.specs.Changes.{erased}
use Rattle.ft25h08.specs.Registers.{security_of}
use Rattle.ft25h08.proofs.security.Security.erase.Given as goal

-- the registers before this one are done
abbrev pub invariant-loop-register : goal.invariant-loop-register
invariant-loop-register l = security_of (record { registers = l.register-items }) ≡ changed 0 (l.register-index * 256) erased (security_of (record { registers = l.initial.register-items }))
