-- What a tick makes of a chip.
use Rattle.std.specs.Prelude.{ℕ, ◌-◌, ◌*◌, false, cond, List, ◌==◌}
use Rattle.cells.specs.Bytes.{changed}
use Rattle.cells.specs.Changes.{programmed, erased}
use Rattle.ft25h08_commands.specs.declared.settings.Settings.{Settings}
use Rattle.ft25h08.specs.Chip.{Chip, with_activity}
use Rattle.ft25h08.specs.declared.activity.Activity.{Activity}
use Rattle.ft25h08.specs.declared.activity.Activity.TheVariants.{Idle, Asleep, Changing}
use Rattle.ft25h08.specs.declared.activity.Change.{Change}
use Rattle.ft25h08.specs.declared.activity.Change.TheVariants.{Program, Erase, ProgramSecurity, EraseSecurity, WriteStatus}

-- the array once a change has landed
abbrev pub landed_array : Change → List ℕ → List ℕ
landed_array (Program page latch) bytes = changed page 256 (programmed latch) bytes
landed_array (Erase first len) bytes = changed first len erased bytes
landed_array (ProgramSecurity register latch) bytes = bytes
landed_array EraseSecurity bytes = bytes
landed_array (WriteStatus new) bytes = bytes

-- the security bytes
abbrev pub landed_security : Change → List ℕ → List ℕ
landed_security (Program page latch) bytes = bytes
landed_security (Erase first len) bytes = bytes
landed_security (ProgramSecurity register latch) bytes = changed (register * 256) 256 (programmed latch) bytes
landed_security EraseSecurity bytes = changed 0 1024 erased bytes
landed_security (WriteStatus new) bytes = bytes

-- the settings
abbrev pub landed_settings : Change → Settings → Settings
landed_settings (Program page latch) s = s
landed_settings (Erase first len) s = s
landed_settings (ProgramSecurity register latch) s = s
landed_settings EraseSecurity s = s
landed_settings (WriteStatus new) s = new

-- the whole chip: the bytes stand, WEL and WIP fall
abbrev pub landed : Change → Chip → Chip
landed change c = record { array = landed_array change c.array; security = landed_security change c.security; settings = landed_settings change c.settings; enabled = false; wp_high = c.wp_high; activity = Idle; ticks = c.ticks }

-- the count left falls by 1, and at 0 the change lands
abbrev pub tick_from : Activity → Chip → Chip
tick_from Idle c = c
tick_from Asleep c = c
tick_from (Changing change left) c = cond (left == 1) (landed change c) (with_activity (Changing change (left - 1)) c)

abbrev pub tick_after : Chip → Chip
tick_after c = tick_from c.activity c
