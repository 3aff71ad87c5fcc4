-- What a chip is doing.
use Rattle.std.specs.Prelude.{Bool, true, false, nat_lt}
use Rattle.ft25h08_commands.specs.declared.conditions.Mode.{Mode}
use Rattle.ft25h08_commands.specs.declared.conditions.Mode.TheVariants as mode
use Rattle.ft25h08.specs.declared.activity.Activity.{Activity}
use Rattle.ft25h08.specs.declared.activity.Activity.TheVariants.{Idle, Asleep, Changing}

-- what a frame meets
abbrev pub mode_of : Activity → Mode
mode_of Idle = mode.Idle
mode_of Asleep = mode.Asleep
mode_of (Changing change left) = mode.Busy

-- a change is under way
abbrev pub is_changing : Activity → Bool
is_changing Idle = false
is_changing Asleep = false
is_changing (Changing change left) = true

-- a change under way has a tick left at least
abbrev pub still_counts : Activity → Bool
still_counts Idle = true
still_counts Asleep = true
still_counts (Changing change left) = nat_lt 0 left
