-- The WP# pin: 0 is low, 1 is high, and any other level is refused and changes nothing.
use Rattle.std.specs.Prelude.{ℕ, cond, Ok, Err, Result, ◌==◌, nat_lt}
use Rattle.ft25h08.specs.Chip.{Chip, with_pin}
use Rattle.ft25h08.specs.declared.refusals.PinRefusal.{PinRefusal}
use Rattle.ft25h08.specs.declared.refusals.PinRefusal.TheVariants.{Level}

abbrev pub pin_answer : ℕ → Result (Unit {0}) PinRefusal
pin_answer level = cond (nat_lt 1 level) (Err Level) (Ok tt)

abbrev pub pin_after : ℕ → Chip → Chip
pin_after level c = cond (nat_lt 1 level) c (with_pin (level == 1) c)
