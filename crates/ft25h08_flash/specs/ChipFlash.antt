-- What a chip means as a flash.
use Rattle.std.specs.Prelude.{ℕ, ◌*◌, ◌/◌, ◌%◌, Bool, true, false, cond, ◌&&◌, List, map, length, Ok, Err, Result, nat_lt}
use Rattle.std.specs.List.{range_with_len}
use Rattle.cells.specs.Latch.{latched}
use Rattle.flash.specs.Meaning.{Meaning}
use Rattle.flash.specs.declared.refusal.FlashRefusal.{FlashRefusal}
use Rattle.flash.specs.declared.refusal.FlashRefusal.TheVariants.{Busy}
use Rattle.ft25h08.specs.Chip.{Chip}
use Rattle.ft25h08.specs.Queries.{busy_in}
use Rattle.ft25h08.specs.Tick.{landed_array}
use Rattle.ft25h08.specs.declared.activity.Activity.{Activity}
use Rattle.ft25h08.specs.declared.activity.Activity.TheVariants.{Idle, Asleep, Changing}
use Rattle.ft25h08.specs.declared.activity.Change.{Change}
use Rattle.ft25h08.specs.declared.activity.Change.TheVariants.{Program, Erase, ProgramSecurity, EraseSecurity, WriteStatus}
use Rattle.cells.specs.Tests.{any_in}
use Rattle.ft25h08_commands.specs.Protection.{protected_by}
use Rattle.ft25h08_commands.specs.Rules.{start_of}
use Rattle.ft25h08_commands.specs.declared.settings.Settings.{Settings}

-- the ticks left of the change under way
abbrev pub ticks_left : Activity → ℕ
ticks_left Idle = 0
ticks_left Asleep = 0
ticks_left (Changing change left) = left

-- the array once the change under way has landed
abbrev pub later_array : Activity → List ℕ → List ℕ
later_array Idle bytes = bytes
later_array Asleep bytes = bytes
later_array (Changing change left) bytes = landed_array change bytes

-- a sector is marked if the settings protect a byte of it
abbrev pub sector_mark : Settings → ℕ → Bool
sector_mark s sector = any_in (protected_by s) (sector * 4096) 4096

-- a mark for each sector of an array of so many bytes
unfoldable pub marks_of : Settings → ℕ → List Bool
marks_of s size = map (sector_mark s) (range_with_len 0 (size / 4096))

abbrev pub chip_meaning : Chip → ℕ → ℕ → Meaning
chip_meaning c programs erases = record { bytes = c.array; left = ticks_left c.activity; later = later_array c.activity c.array; marks = marks_of c.settings (length c.array); programs = programs; erases = erases; program_ticks = c.ticks.program; erase_ticks = c.ticks.erase_sector }

-- a change of the array, and nothing else
abbrev pub of_array : Change → Bool
of_array (Program page latch) = true
of_array (Erase first len) = true
of_array (ProgramSecurity register latch) = false
of_array EraseSecurity = false
of_array (WriteStatus new) = false

-- a taken chip is idle, or in the middle of a change of its array with 1 to 65,535 ticks left
abbrev pub as_flash : Activity → Bool
as_flash Idle = true
as_flash Asleep = false
as_flash (Changing change left) = of_array change && (nat_lt 0 left && nat_lt left 65536)

-- the program of bytes at an address
abbrev pub page_at : ℕ → List ℕ → Chip → Change
page_at at new c = Program (start_of (at % length c.array) 256) (latched at new)

-- the erase of the sector that holds an address
abbrev pub sector_at : ℕ → Chip → Change
sector_at at c = Erase (start_of (at % length c.array) 4096) 4096

-- a chip is taken unless a change is under way
abbrev pub take_answer : Chip → Result (Unit {0}) FlashRefusal
take_answer c = cond (busy_in c) (Err Busy) (Ok tt)
