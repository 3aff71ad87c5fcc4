-- Slots lie one behind the other, and the last ends inside the area.
use Rattle.std.proofs.Common.{◌≡◌, ℕ, ◌+◌, ◌*◌, ◌/◌, ◌<◌, ◌≤◌, Some, add-mul, one-mul, arith}
use Rattle.std.proofs.Math.Nat.{div-mul-le_self}
use Rattle.std.proofs.lemmas.Nat.{mul-le}
use Rattle.std.proofs.lemmas.Bool.Decides.{nat_tests}
use Rattle.book.specs.Slots.{place_of}

-- a slot ends inside the area
pub slot_ends : (i n len : ℕ) → i < len / n → i * n + n ≤ len
slot_ends i n len h = omega (arith, mul-le (i + 1) n (len / n) n (omega arith) (omega arith), add-mul i 1 n, one-mul n, div-mul-le_self len n)

-- a slot that has a place ends inside the area
pub place_ends : (start len body i at : ℕ) → Some at ≡ place_of start len body i → (body < 255) × (at + (1 + body) ≤ start + len)
place_ends start len body i at is = grind (arith, nat_tests, slot_ends i (1 + body) len)
