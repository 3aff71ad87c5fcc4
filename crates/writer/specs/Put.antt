-- What a put answers, and what it leaves.
use Rattle.std.specs.Prelude.{◌≡◌, ℕ, ◌+◌, ◌*◌, ◌%◌, Bool, false, cond, ◌&&◌, List, length, Some, None, Ok, Err, Option, Result, ◌==◌, nat_le, slice_index_or}
use Rattle.cells.specs.Tests.{first_in}
use Rattle.flash.specs.Meaning.{Meaning}
use Rattle.writer.specs.Needed.{placed, is_touched, programs_for, erases_for}
use Rattle.writer.specs.declared.refusal.PutRefusal.{PutRefusal}
use Rattle.writer.specs.declared.refusal.PutRefusal.TheVariants.{Range, Busy, Protected}

-- a flash that meant m is ready and holds these bytes, so many programs and erases later; marks and ticks never change
abbrev pub holding : List ℕ → ℕ → ℕ → Meaning → Meaning
holding bytes programs erases m = record { bytes = bytes; left = 0; later = bytes; marks = m.marks; programs = (m.programs + programs) % 4294967296; erases = (m.erases + erases) % 4294967296; program_ticks = m.program_ticks; erase_ticks = m.erase_ticks }

-- what it costs to make a flash hold the bytes new: programs, erases, and the ticks that those take
abbrev pub cost_of : Meaning → List ℕ → ℕ × ℕ × ℕ
cost_of m new = (programs_for m.bytes new, erases_for m.bytes new, programs_for m.bytes new * m.program_ticks + erases_for m.bytes new * m.erase_ticks)

-- the flash has been made to hold the bytes new, at that cost
pub record Made (new : List ℕ) (before after : Meaning) (cost : ℕ × ℕ × ℕ) : Type 0 where
  pub spent : cost ≡ cost_of before new
  pub holds : after ≡ holding new cost.0 cost.1 before

-- a sector that has to change, and is protected
abbrev pub is_locked : Meaning → List ℕ → ℕ → Bool
is_locked m new sector = slice_index_or m.marks sector false && is_touched m.bytes new sector

abbrev pub unless_locked : Option ℕ → ℕ × ℕ × ℕ → Result (ℕ × ℕ × ℕ) PutRefusal
unless_locked (Some sector) cost = Err (Protected sector)
unless_locked None cost = Ok cost

-- the checks in their order: inside the flash, with a work buffer of 4,096 bytes; ready; no touched sector protected
abbrev pub put_answer : ℕ → List ℕ → ℕ → Meaning → Result (ℕ × ℕ × ℕ) PutRefusal
put_answer at bytes room m =
    cond (nat_le (at + length bytes) (length m.bytes) && room == 4096)
    (cond (m.left == 0) (unless_locked (first_in (is_locked m (placed at bytes m.bytes)) 0 (length m.marks)) (cost_of m (placed at bytes m.bytes))) (Err Busy))
    (Err Range)

-- a refusal changes nothing
abbrev pub after_put : Result (ℕ × ℕ × ℕ) PutRefusal → ℕ → List ℕ → Meaning → Meaning
after_put (Ok cost) at bytes m = holding (placed at bytes m.bytes) cost.0 cost.1 m
after_put (Err refusal) at bytes m = m
