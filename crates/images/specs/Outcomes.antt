-- What a step comes to, and what it leaves.
use Rattle.std.specs.Prelude.{ℕ, min, Bool, List, [], ◌∷◌, length, take, replicate, Ok, Err, Result, ◌==◌, slice_index}
use Rattle.flash.specs.Answers.{read_answer, program_answer, erase_answer, mark_answer}
use Rattle.flash.specs.Meaning.{Meaning}
use Rattle.flash.specs.Steps.{completed, program_completed, erase_completed}
use Rattle.flash.specs.declared.in_progress.InProgress.{InProgress}
use Rattle.flash.specs.declared.refusal.FlashRefusal.{FlashRefusal}
use Rattle.flash.specs.declared.refusal.FlashRefusal.TheVariants.{Busy}
use Rattle.images.specs.declared.outcome.Outcome.{Outcome}
use Rattle.images.specs.declared.outcome.Outcome.TheVariants.{Took, Holds, Marked}
use Rattle.images.specs.declared.script.Step.{Step}
use Rattle.images.specs.declared.script.Step.TheVariants.{Program, Erase, Read, ReadTooSoon, Mark}

-- a change that was waited for
abbrev pub took_of : Result ℕ FlashRefusal → Result Outcome FlashRefusal
took_of (Ok ticks) = Ok (Took ticks)
took_of (Err why) = Err why

abbrev pub marked_of : Result Bool FlashRefusal → Result Outcome FlashRefusal
marked_of (Ok protected) = Ok (Marked protected)
marked_of (Err why) = Err why

abbrev pub held_of : Result (Unit {0}) FlashRefusal → ℕ → Result Outcome FlashRefusal
held_of (Ok u) byte = Ok (Holds byte)
held_of (Err why) byte = Err why

-- the read of one byte
abbrev pub byte_outcome : ℕ → List ℕ → Bool → Result Outcome FlashRefusal
byte_outcome at bytes ready = held_of (read_answer at 1 bytes ready) (slice_index bytes at)

-- a read while the program runs that was just started
abbrev pub too_soon_of : Result InProgress FlashRefusal → Result Outcome FlashRefusal
too_soon_of (Ok change) = Err Busy
too_soon_of (Err why) = Err why

-- so many bytes, all alike; 257 at most, which is one more than any program takes
abbrev pub alike : ℕ → ℕ → List ℕ
alike byte count = take (min count 257) (replicate 257 byte)

abbrev pub outcome_of : Step → Meaning → Result Outcome FlashRefusal
outcome_of (Program at count byte) m = took_of (completed (program_answer at (length (alike byte count)) m) m.program_ticks)
outcome_of (Erase sector) m = took_of (completed (erase_answer sector m) m.erase_ticks)
outcome_of (Read at) m = byte_outcome at m.bytes (m.left == 0)
outcome_of (ReadTooSoon at byte) m = too_soon_of (program_answer at 1 m)
outcome_of (Mark sector) m = marked_of (mark_answer sector m)

abbrev pub after_step : Step → Meaning → Meaning
after_step (Program at count byte) m = program_completed (program_answer at (length (alike byte count)) m) at (alike byte count) m
after_step (Erase sector) m = erase_completed (erase_answer sector m) sector m
after_step (Read at) m = m
after_step (ReadTooSoon at byte) m = program_completed (program_answer at 1 m) at (byte ∷ []) m
after_step (Mark sector) m = m
