-- What a power cut leaves.
use Rattle.std.specs.Prelude.{ℕ, ◌*◌, ◌%◌, Bool, false, cond, ◌&&◌, List, length, Ok, Err, Result, ◌==◌, nat_le, nat_lt, slice_index}
use Rattle.cells.specs.Bytes.{changed}
use Rattle.cells.specs.Changes.{cut_while_programming, cut_while_erasing}
use Rattle.ft25h08_commands.specs.declared.settings.Settings.{Settings}
use Rattle.ft25h08.specs.Chip.{Chip}
use Rattle.ft25h08.specs.declared.activity.Activity.{Activity}
use Rattle.ft25h08.specs.declared.activity.Activity.TheVariants.{Idle, Asleep, Changing}
use Rattle.ft25h08.specs.declared.activity.Change.{Change}
use Rattle.ft25h08.specs.declared.activity.Change.TheVariants.{Program, Erase, ProgramSecurity, EraseSecurity, WriteStatus}
use Rattle.ft25h08.specs.declared.refusals.CutRefusal.{CutRefusal}
use Rattle.ft25h08.specs.declared.refusals.CutRefusal.TheVariants.{JunkLength}

-- the array once a change was interrupted
abbrev pub left_array : List ℕ → Change → List ℕ → List ℕ
left_array junk (Program page latch) bytes = changed page 256 (cut_while_programming latch junk) bytes
left_array junk (Erase first len) bytes = changed first len (cut_while_erasing junk) bytes
left_array junk (ProgramSecurity register latch) bytes = bytes
left_array junk EraseSecurity bytes = bytes
left_array junk (WriteStatus new) bytes = bytes

-- the security bytes
abbrev pub left_security : List ℕ → Change → List ℕ → List ℕ
left_security junk (Program page latch) bytes = bytes
left_security junk (Erase first len) bytes = bytes
left_security junk (ProgramSecurity register latch) bytes = changed (register * 256) 256 (cut_while_programming latch junk) bytes
left_security junk EraseSecurity bytes = changed 0 1024 (cut_while_erasing junk) bytes
left_security junk (WriteStatus new) bytes = bytes

-- the settings: a status write leaves the new ones if the first junk byte is odd, else the old ones
abbrev pub left_settings : List ℕ → Change → Settings → Settings
left_settings junk (Program page latch) s = s
left_settings junk (Erase first len) s = s
left_settings junk (ProgramSecurity register latch) s = s
left_settings junk EraseSecurity s = s
left_settings junk (WriteStatus new) s = cond (slice_index junk 0 % 2 == 1) new s

-- the whole chip: idle and awake, with WEL and WIP 0
abbrev pub interrupted : List ℕ → Change → Chip → Chip
interrupted junk change c = record { array = left_array junk change c.array; security = left_security junk change c.security; settings = left_settings junk change c.settings; enabled = false; wp_high = c.wp_high; activity = Idle; ticks = c.ticks }

-- with no change under way no cell and no setting changes
abbrev pub restarted : Chip → Chip
restarted c = record { array = c.array; security = c.security; settings = c.settings; enabled = false; wp_high = c.wp_high; activity = Idle; ticks = c.ticks }

abbrev pub cut_from : List ℕ → Activity → Chip → Chip
cut_from junk Idle c = restarted c
cut_from junk Asleep c = restarted c
cut_from junk (Changing change left) c = interrupted junk change c

-- the junk has 1 byte up to the array's length
abbrev pub junk_fits : List ℕ → Chip → Bool
junk_fits junk c = nat_lt 0 (length junk) && nat_le (length junk) (length c.array)

abbrev pub cut_answer : List ℕ → Chip → Result (Unit {0}) CutRefusal
cut_answer junk c = cond (junk_fits junk c) (Ok tt) (Err JunkLength)

-- a refused cut changes nothing
abbrev pub cut_after : List ℕ → Chip → Chip
cut_after junk c = cond (junk_fits junk c) (cut_from junk c.activity c) c
