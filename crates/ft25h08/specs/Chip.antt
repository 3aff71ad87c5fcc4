-- A chip as the outside knows it: its bytes by address, its status bits, its pin, and what it is doing.
use Rattle.std.specs.Prelude.{ℕ, Bool, List}
use Rattle.ft25h08_commands.specs.declared.conditions.Conditions.{Conditions}
use Rattle.ft25h08_commands.specs.declared.settings.Settings.{Settings}
use Rattle.ft25h08.specs.Activities.{mode_of}
use Rattle.ft25h08.specs.declared.activity.Activity.{Activity}
use Rattle.ft25h08.specs.declared.ticks.Ticks.{Ticks}

pub record Chip : Type 0 where
  pub array : List ℕ
  pub security : List ℕ
  pub settings : Settings
  pub enabled : Bool
  pub wp_high : Bool
  pub activity : Activity
  pub ticks : Ticks

-- the same chip with WEL as given
abbrev pub with_enable : Bool → Chip → Chip
with_enable b c = record { array = c.array; security = c.security; settings = c.settings; enabled = b; wp_high = c.wp_high; activity = c.activity; ticks = c.ticks }

-- the same chip with another level of WP#
abbrev pub with_pin : Bool → Chip → Chip
with_pin b c = record { array = c.array; security = c.security; settings = c.settings; enabled = c.enabled; wp_high = b; activity = c.activity; ticks = c.ticks }

-- the same chip, doing something else
abbrev pub with_activity : Activity → Chip → Chip
with_activity a c = record { array = c.array; security = c.security; settings = c.settings; enabled = c.enabled; wp_high = c.wp_high; activity = a; ticks = c.ticks }

-- what decides, beside the frame itself, whether a frame is accepted
abbrev pub conditions_of : Chip → Conditions
conditions_of c = record { settings = c.settings; write_enabled = c.enabled; wp_high = c.wp_high; mode = mode_of c.activity }
