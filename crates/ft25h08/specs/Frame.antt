-- A frame: its answer, the chip after it, and the answer buffer after it.
use Rattle.std.specs.Prelude.{ℕ, List, length, Ok, Err, Result}
use Rattle.cells.specs.Driven.{driven, silent}
use Rattle.ft25h08_commands.specs.Frames.{command_in}
use Rattle.ft25h08_commands.specs.Rules.{rules, verdict}
use Rattle.ft25h08_commands.specs.declared.admission.FrameRefusal.{FrameRefusal}
use Rattle.ft25h08_commands.specs.declared.admission.FrameRefusal.TheVariants as refusal
use Rattle.ft25h08.specs.Accepted.{acted, driven_by}
use Rattle.ft25h08.specs.Chip.{Chip, conditions_of}

-- the first check to fail answers
abbrev pub frame_answer : Chip → List ℕ → ℕ → ℕ → Result (Unit {0}) FrameRefusal
frame_answer c frame odd room = verdict (rules (conditions_of c) (length c.array) frame odd room)

-- one thing where the frame was refused for its size, answer 1, and another for every other refusal
abbrev pub by_size : {X : Type 0} → FrameRefusal → X → X → X
by_size refusal.Size x y = x
by_size refusal.Busy x y = y
by_size refusal.Protected x y = y
by_size refusal.Asleep x y = y
by_size refusal.Unlisted x y = y
by_size refusal.Shape x y = y
by_size refusal.NotEnabled x y = y
by_size refusal.QuadDisabled x y = y
by_size refusal.Locked x y = y
by_size refusal.NoSuchRegister x y = y

-- a refused frame changes nothing in the chip
abbrev pub chip_by : Result (Unit {0}) FrameRefusal → Chip → Chip → Chip
chip_by (Ok u) accepted same = accepted
chip_by (Err r) accepted same = same

-- the buffer: what is driven, untouched after answer 1, and FF for each frame byte after any other refusal
abbrev pub buffer_by : Result (Unit {0}) FrameRefusal → List ℕ → List ℕ → List ℕ → List ℕ
buffer_by (Ok u) shown same blank = shown
buffer_by (Err r) shown same blank = by_size r same blank

abbrev pub frame_after : Chip → List ℕ → ℕ → ℕ → Chip
frame_after c frame odd room = chip_by (frame_answer c frame odd room) (acted (command_in frame) frame c) c

abbrev pub answer_after : Chip → List ℕ → ℕ → List ℕ → List ℕ
answer_after c frame odd old =
    buffer_by (frame_answer c frame odd (length old))
    (driven (driven_by (command_in frame) c) (length frame) old)
    old
    (driven silent (length frame) old)
