-- The lines that the bench prints.
use Rattle.std.specs.Prelude.{ℕ, ◌+◌, ◌/◌, ◌%◌, cond, List, [], ◌∷◌, ◌++◌, codes, decimal, nat_lt}
use Rattle.std.specs.List.{flat_map}

-- 0 to 9, then a to f
abbrev pub hex_digit : ℕ → ℕ
hex_digit n = cond (nat_lt n 10) (48 + n) (87 + n)

abbrev pub hex_byte : ℕ → List ℕ
hex_byte b = hex_digit (b / 16) ∷ hex_digit (b % 16) ∷ []

-- two digits for each byte
abbrev pub hex_of : List ℕ → List ℕ
hex_of bytes = flat_map hex_byte bytes

-- a dash where there are no bytes
abbrev pub answer_text : List ℕ → List ℕ
answer_text [] = codes "-"
answer_text (b ∷ bytes) = hex_of (b ∷ bytes)

-- the number of the line, the number of the answer, and the bytes of the answer
abbrev pub line_text : ℕ → ℕ → List ℕ → List ℕ
line_text line number bytes = decimal line ++ codes " " ++ decimal number ++ codes " " ++ answer_text bytes ++ codes "\n"

-- four digits, the high byte first
abbrev pub hex_word : ℕ → List ℕ
hex_word w = hex_byte (w / 256) ++ hex_byte (w % 256)

-- the last line of a good trace
abbrev pub status_text : ℕ → List ℕ
status_text status = codes "status " ++ hex_word status ++ codes "\n"

-- the last line of a trace with a fault, at its offset
abbrev pub fault_text : ℕ → List ℕ
fault_text offset = codes "trace 13 at " ++ decimal offset ++ codes "\n"
