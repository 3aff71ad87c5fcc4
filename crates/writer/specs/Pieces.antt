-- Bytes that are to stand from an address on, piece by piece: each piece lies in one unit of the flash.
use Rattle.std.specs.Prelude.{◌≡◌, ℕ, ◌+◌, ◌-◌, ◌%◌, ◌≤◌, min, List, ◌++◌, length, take, drop, Some, None, Option}
use Rattle.flash.specs.Meaning.{Meaning}
use Rattle.writer.specs.declared.piece.Piece.{Piece}
use Rattle.writer.specs.declared.piece.Pieces.{Pieces}

-- how many of n bytes lie between an address and the end of its unit
abbrev pub room_at : ℕ → ℕ → ℕ → ℕ
room_at unit at n = min (unit - at % unit) n

-- the first piece was taken off, and the rest follows where it ends; or there are no bytes left
abbrev pub TakesPiece : (unit : ℕ) → Pieces unit → Option (Piece unit) → Pieces unit → Type 0
TakesPiece unit before None after = length before.rest.now ≡ 0
TakesPiece unit before (Some piece) after =
    (piece.at ≡ before.at) × (piece.bytes.now ≡ take (room_at unit before.at (length before.rest.now)) before.rest.now)
    × (after.at ≡ before.at + length piece.bytes.now) × (after.rest.now ≡ drop (length piece.bytes.now) before.rest.now)
    × (length piece.bytes.now ≡ room_at unit before.at (length before.rest.now))

-- a flash that is ready, and in which n bytes from an address on lie
pub record Fits (at n : ℕ) (m : Meaning) : Type 0 where
  pub ready : m.left ≡ 0
  pub within : at + n ≤ length m.bytes

-- what a sector is to hold: what stands before the bytes, the bytes, and what stands behind them
abbrev pub composed : ℕ → List ℕ → List ℕ → List ℕ
composed at bytes held = take (at % 4096) (drop (at - at % 4096) held) ++ (bytes ++ take (4096 - (at % 4096 + length bytes)) (drop (at + length bytes) held))
