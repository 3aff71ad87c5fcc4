-- What a chip answers when it is asked.
use Rattle.std.specs.Prelude.{ℕ, Bool, cond, List, length, Some, None, Option, nat_lt, slice_index}
use Rattle.ft25h08_commands.specs.Status.{status_word}
use Rattle.ft25h08.specs.Activities.{is_changing}
use Rattle.ft25h08.specs.Chip.{Chip}

-- WIP is 1 exactly while a change is under way
abbrev pub busy_in : Chip → Bool
busy_in c = is_changing c.activity

-- S15 to S0
abbrev pub status_of : Chip → ℕ
status_of c = status_word c.settings c.enabled (busy_in c)

-- the byte at an address, and none past the end
abbrev pub byte_at : List ℕ → ℕ → Option ℕ
byte_at bytes a = cond (nat_lt a (length bytes)) (Some (slice_index bytes a)) None
