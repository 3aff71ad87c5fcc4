-- Bytes clocked in, one record after the other.
use Rattle.std.specs.Prelude.{◌≡◌, ℕ, ◌+◌, ◌*◌, ◌<◌, ◌≤◌, List, ◌++◌, map, length, drop, Some, slice_index}
use Rattle.std.specs.List.{range_with_len}
use Rattle.bench.specs.Records.{record_in}
use Rattle.bench.specs.declared.record.Record.TheVariants.{Byte}

-- the body of byte record k
abbrev pub body : List ℕ → ℕ → ℕ
body rest k = slice_index rest (2 * k + 1)

-- the bodies of the first n byte records
abbrev pub bodies : ℕ → List ℕ → List ℕ
bodies n rest = map (body rest) (range_with_len 0 n)

-- what is left of a trace begins with n byte records, of two bytes each
abbrev pub ByteRun : ℕ → List ℕ → Type 0
ByteRun n rest = (k : ℕ) → k < n → record_in (drop (2 * k) rest) ≡ Some (Byte (body rest k))

-- n byte records were clocked in; the frame has at most 4,096 bytes
pub record Clocked (n : ℕ) (rest before after : List ℕ) : Type 0 where
  pub run : ByteRun n rest
  pub grew : after ≡ before ++ bodies n rest
  pub room : length after ≤ 4096
  pub inside : 2 * n ≤ length rest
