-- Birth.
use Rattle.std.specs.Prelude.{ℕ, true, false, cond, List, Ok, Err, Result}
use Rattle.cells.specs.Bytes.{counted}
use Rattle.ft25h08_commands.specs.Sizes.{is_capacity}
use Rattle.ft25h08_commands.specs.Status.{cleared}
use Rattle.ft25h08.specs.Chip.{Chip}
use Rattle.ft25h08.specs.Counts.{all_count}
use Rattle.ft25h08.specs.declared.activity.Activity.TheVariants.{Idle}
use Rattle.ft25h08.specs.declared.refusals.BirthRefusal.{BirthRefusal}
use Rattle.ft25h08.specs.declared.refusals.BirthRefusal.TheVariants as birth
use Rattle.ft25h08.specs.declared.ticks.Ticks.{Ticks}

-- refused for a length that is no capacity, then for a count of 0
abbrev pub birth_answer : ℕ → Ticks → Result (Unit {0}) BirthRefusal
birth_answer len t = cond (is_capacity len) (cond (all_count t) (Ok tt) (Err birth.Ticks)) (Err birth.Length)

-- a newborn chip keeps its array's contents; its security bytes are FF, its status 0, WP# is high, and it is idle
abbrev pub newborn : List ℕ → Ticks → Chip
newborn bytes t = record { array = bytes; security = counted (λ _. 255) 1024; settings = cleared; enabled = false; wp_high = true; activity = Idle; ticks = t }
