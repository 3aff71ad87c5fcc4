use Rattle.std.proofs.Common.{◌≡◌, ℕ, ◌*◌, ◌<◌, length, get_or}
use Rattle.ft25h08.specs.Registers.{register_byte}
use Rattle.ft25h08.proofs.security.Security.bytes.Given as goal

-- the registers before r are copied
abbrev pub invariant-loop-r : goal.invariant-loop-r
invariant-loop-r l = (length l.bytes ≡ 1024) × ((k : ℕ) → k < l.r * 256 → get_or l.bytes k 0 ≡ register_byte l.self k)
