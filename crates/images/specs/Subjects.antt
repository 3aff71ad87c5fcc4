-- The two flashes that the script is run over.
use Rattle.std.specs.Prelude.{ℕ, Bool, true, false, List, ◌++◌, replicate}
use Rattle.flash.specs.Meaning.{Meaning}
use Rattle.ft25h08.specs.Chip.{Chip}
use Rattle.ft25h08_commands.specs.declared.settings.Settings.{Settings}

-- so many bytes of FF
unfoldable pub blank : ℕ → List ℕ
blank n = replicate n 255

-- sectors 0 to 15 of 32 are protected
abbrev pub lower_marks : List Bool
lower_marks = replicate 16 true ++ replicate 16 false

-- what either flash means at first: nothing differs but the ticks that a program and an erase take
abbrev pub at_first : ℕ → ℕ → Meaning
at_first program_ticks erase_ticks = record { bytes = blank 131072; left = 0; later = blank 131072; marks = lower_marks; programs = 0; erases = 0; program_ticks = program_ticks; erase_ticks = erase_ticks }

-- CMP 1 and BP 0001
abbrev pub lower_block : Settings
lower_block = record { bp0 = true; bp1 = false; bp2 = false; bp3 = false; srp = false; qe = false; lb = false; cmp = true }

-- the same chip with other settings
abbrev pub with_settings : Settings → Chip → Chip
with_settings s c = record { array = c.array; security = c.security; settings = s; enabled = c.enabled; wp_high = c.wp_high; activity = c.activity; ticks = c.ticks }
