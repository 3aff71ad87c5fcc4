-- The records of a trace, by kind byte.
use Rattle.std.specs.Prelude.{ℕ, ◌+◌, ◌*◌, cond, List, [], ◌∷◌, Some, None, Option, ◌==◌}
use Rattle.bench.specs.declared.record.Record.{Record}
use Rattle.bench.specs.declared.record.Record.TheVariants.{Byte, SelectLow, SelectHigh, Ticks, WpPin, PowerCut}

-- a body of one byte
abbrev pub one_byte : (ℕ → Record) → List ℕ → Option Record
one_byte make [] = None
one_byte make (b ∷ rest) = Some (make b)

-- a body of two bytes, the low one first
abbrev pub two_bytes : (ℕ → Record) → List ℕ → Option Record
two_bytes make [] = None
two_bytes make (low ∷ []) = None
two_bytes make (low ∷ high ∷ rest) = Some (make (low + high * 256))

-- the record that a kind byte begins; none for an unknown kind or a body that is cut off
abbrev pub record_of : ℕ → List ℕ → Option Record
record_of kind body =
    cond (kind == 0x01) (one_byte Byte body)
    (cond (kind == 0x02) (Some SelectLow)
    (cond (kind == 0x03) (one_byte SelectHigh body)
    (cond (kind == 0x04) (two_bytes Ticks body)
    (cond (kind == 0x05) (one_byte WpPin body)
    (cond (kind == 0x06) (one_byte PowerCut body)
    None)))))

-- the first record of what is left of a trace
abbrev pub record_in : List ℕ → Option Record
record_in [] = None
record_in (kind ∷ body) = record_of kind body

-- how many bytes it takes, its kind byte included
abbrev pub record_length : Record → ℕ
record_length (Byte b) = 2
record_length SelectLow = 1
record_length (SelectHigh odd) = 2
record_length (Ticks count) = 3
record_length (WpPin level) = 2
record_length (PowerCut junk) = 2

-- how many lines it prints
abbrev pub lines_of : Record → ℕ
lines_of (Byte b) = 0
lines_of SelectLow = 0
lines_of (SelectHigh odd) = 1
lines_of (Ticks count) = 1
lines_of (WpPin level) = 1
lines_of (PowerCut junk) = 1
