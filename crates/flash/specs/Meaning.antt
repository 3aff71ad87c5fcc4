-- What a writable flash means, and what always holds of it.
use Rattle.std.specs.Prelude.{◌≡◌, ℕ, ◌+◌, ◌-◌, ◌*◌, ◌%◌, ◌<◌, ◌≤◌, Bool, cond, List, length, ◌==◌}
use Rattle.cells.specs.Bytes.{changed}
use Rattle.cells.specs.Changes.{anded, erased}

pub record Meaning : Type 0 where
  -- the bytes that stand now
  pub bytes : List ℕ
  -- the ticks left of a change under way; 0 when it is ready
  pub left : ℕ
  -- the bytes that will stand once it is ready
  pub later : List ℕ
  -- whether each sector is protected
  pub marks : List Bool
  -- how many programs and erases were accepted, modulo 2^32
  pub programs : ℕ
  pub erases : ℕ
  -- how many ticks each takes
  pub program_ticks : ℕ
  pub erase_ticks : ℕ

-- whole sectors of 4,096 bytes, 1 to 256 of them, a mark for each; counts in their ranges; when it is ready the later bytes
-- are the bytes
pub record Sound (m : Meaning) : Type 0 where
  pub sectors : length m.bytes ≡ 4096 * length m.marks
  pub later_long : length m.later ≡ length m.bytes
  pub some : 0 < length m.marks
  pub most : length m.marks ≤ 256
  pub program_low : 0 < m.program_ticks
  pub program_high : m.program_ticks < 65536
  pub erase_low : 0 < m.erase_ticks
  pub erase_high : m.erase_ticks < 65536
  pub left_high : m.left < 65536
  pub programs_high : m.programs < 4294967296
  pub erases_high : m.erases < 4294967296
  pub at_rest : m.left ≡ 0 → m.later ≡ m.bytes

-- a program started: the bytes stay until it lands
abbrev pub program_started : ℕ → List ℕ → Meaning → Meaning
program_started at new m = record { bytes = m.bytes; left = m.program_ticks; later = changed at (length new) (anded at new) m.bytes; marks = m.marks; programs = (m.programs + 1) % 4294967296; erases = m.erases; program_ticks = m.program_ticks; erase_ticks = m.erase_ticks }

-- an erase started
abbrev pub erase_started : ℕ → Meaning → Meaning
erase_started sector m = record { bytes = m.bytes; left = m.erase_ticks; later = changed (sector * 4096) 4096 erased m.bytes; marks = m.marks; programs = m.programs; erases = (m.erases + 1) % 4294967296; program_ticks = m.program_ticks; erase_ticks = m.erase_ticks }

-- a tick: the count left falls by 1 unless it is 0, and when it comes to 0 the later bytes stand
abbrev pub after_tick : Meaning → Meaning
after_tick m = record { bytes = cond (m.left == 1) m.later m.bytes; left = m.left - 1; later = m.later; marks = m.marks; programs = m.programs; erases = m.erases; program_ticks = m.program_ticks; erase_ticks = m.erase_ticks }

-- ready: the change under way has landed
abbrev pub settled : Meaning → Meaning
settled m = record { bytes = cond (m.left == 0) m.bytes m.later; left = 0; later = m.later; marks = m.marks; programs = m.programs; erases = m.erases; program_ticks = m.program_ticks; erase_ticks = m.erase_ticks }
