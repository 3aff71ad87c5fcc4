-- What a call leaves, by its answer: a refusal changes nothing.
use Rattle.std.specs.Prelude.{ℕ, List, length, take, drop, Ok, Err, Result}
use Rattle.flash.specs.Meaning.{Meaning, program_started, erase_started, settled}
use Rattle.flash.specs.declared.in_progress.InProgress.{InProgress}
use Rattle.flash.specs.declared.refusal.FlashRefusal.{FlashRefusal}

-- the buffer of a read
abbrev pub read_into : Result (Unit {0}) FlashRefusal → ℕ → List ℕ → List ℕ → List ℕ
read_into (Ok u) at bytes out = take (length out) (drop at bytes)
read_into (Err r) at bytes out = out

abbrev pub after_program : Result InProgress FlashRefusal → ℕ → List ℕ → Meaning → Meaning
after_program (Ok mark) at new m = program_started at new m
after_program (Err r) at new m = m

abbrev pub after_erase : Result InProgress FlashRefusal → ℕ → Meaning → Meaning
after_erase (Ok mark) sector m = erase_started sector m
after_erase (Err r) sector m = m

-- a change from its start to its end: its ticks, and what it leaves
abbrev pub completed : Result InProgress FlashRefusal → ℕ → Result ℕ FlashRefusal
completed (Ok mark) ticks = Ok ticks
completed (Err r) ticks = Err r

abbrev pub program_completed : Result InProgress FlashRefusal → ℕ → List ℕ → Meaning → Meaning
program_completed (Ok mark) at new m = settled (program_started at new m)
program_completed (Err r) at new m = m

abbrev pub erase_completed : Result InProgress FlashRefusal → ℕ → Meaning → Meaning
erase_completed (Ok mark) sector m = settled (erase_started sector m)
erase_completed (Err r) sector m = m
