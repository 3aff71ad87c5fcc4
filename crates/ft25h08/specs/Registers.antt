-- The four security registers as one list by security address.
use Rattle.std.specs.Prelude.{ℕ, ◌/◌, ◌%◌, cond, List, Some, None, Option, nat_lt, slice_index, slice_index_or, replicate}
use Rattle.std.proofs.Common.{refl}
use Rattle.cells.specs.Bytes.{counted}
use Rattle.ft25h08.specs.declared.register.Register.{Register}
use Rattle.ft25h08.specs.declared.security.Security.{Security}

-- stands where the list ends; every security address has its register before that
abbrev pub no_register : Register
no_register = record { bytes = replicate 256 255; whole = refl }

-- the byte at a security address: byte a mod 256 of register a / 256
abbrev pub register_byte : Security → ℕ → ℕ
register_byte s a = slice_index (slice_index_or s.registers (a / 256) no_register).bytes (a % 256)

-- all 1,024 bytes by security address
unfoldable pub security_of : Security → List ℕ
security_of s = counted (register_byte s) 1024

-- the byte at a security address, where there is one
abbrev pub security_byte : Security → ℕ → Option ℕ
security_byte s a = cond (nat_lt a 1024) (Some (register_byte s a)) None
