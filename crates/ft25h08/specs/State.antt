-- The chip that a value of the code stands for.
use Rattle.std.specs.Prelude.{vec_items}
use Rattle.ft25h08.specs.Chip.{Chip}
use Rattle.ft25h08.specs.Registers.{security_of}
use Rattle.ft25h08.specs.declared.chip.Ft25h08.{Ft25h08}

abbrev pub chip_of : Ft25h08 → Chip
chip_of p = record { array = vec_items p.array; security = security_of p.security; settings = p.settings; enabled = p.write_enabled; wp_high = p.wp_high; activity = p.activity; ticks = p.ticks }
