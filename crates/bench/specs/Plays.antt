-- What a record does on the bench, and what it prints.
use Rattle.std.specs.Prelude.{◌≡◌, ℕ, zero, suc, Bool, true, false, not, ◌&&◌, List, [], ◌∷◌, ◌++◌, length, Ok, Err, Result, nat_lt}
use Rattle.cells.specs.Bytes.{counted}
use Rattle.cells.specs.Driven.{silent}
use Rattle.ft25h08_commands.specs.Frames.{command_in}
use Rattle.ft25h08_commands.specs.Rules.{number_of}
use Rattle.ft25h08_commands.specs.declared.admission.FrameRefusal.{FrameRefusal}
use Rattle.ft25h08.specs.Chip.{Chip}
use Rattle.ft25h08.specs.Accepted.{driven_by}
use Rattle.ft25h08.specs.Frame.{frame_answer, frame_after, by_size}
use Rattle.ft25h08.specs.Pin.{pin_answer, pin_after}
use Rattle.ft25h08.specs.PowerCut.{cut_answer, cut_after}
use Rattle.ft25h08.specs.Refusals.{pin_number, cut_number}
use Rattle.ft25h08.specs.Tick.{tick_after}
use Rattle.bench.specs.Texts.{line_text}
use Rattle.bench.specs.declared.record.Record.{Record}
use Rattle.bench.specs.declared.record.Record.TheVariants.{Byte, SelectLow, SelectHigh, Ticks, WpPin, PowerCut}

-- a chip on the bench: whether CS# is low, and the bytes clocked in since it last went low
pub record OnBench : Type 0 where
  pub chip : Chip
  pub selected : Bool
  pub frame : List ℕ

-- a chip that was put on the bench, with CS# high
abbrev pub on_bench : Chip → OnBench
on_bench c = record { chip = c; selected = false; frame = [] }

-- so many ticks, one after the other
unfoldable pub ticked : ℕ → Chip → Chip
ticked zero c = c
ticked (suc n) c = ticked n (tick_after c)

-- the number of an answer: 0 where it was accepted
abbrev pub number_by : {E : Type 0} → (E → ℕ) → Result (Unit {0}) E → ℕ
number_by number (Ok u) = 0
number_by number (Err e) = number e

-- the answer buffer is as long as the frame
abbrev pub frame_number : Chip → List ℕ → ℕ → ℕ
frame_number c frame odd = number_by number_of (frame_answer c frame odd (length frame))

-- what is shown of an answer: nothing of a frame that was refused for its size, with 1
abbrev pub shown_by : Result (Unit {0}) FrameRefusal → List ℕ → List ℕ → List ℕ
shown_by (Ok u) shown blank = shown
shown_by (Err r) shown blank = by_size r [] blank

-- for each byte of the frame what the chip drives, or FF
abbrev pub frame_shown : Chip → List ℕ → ℕ → List ℕ
frame_shown c frame odd =
    shown_by (frame_answer c frame odd (length frame)) (counted (driven_by (command_in frame) c) (length frame)) (counted silent (length frame))

abbrev pub pin_number_of : ℕ → ℕ
pin_number_of level = number_by pin_number (pin_answer level)

abbrev pub cut_number_of : ℕ → Chip → ℕ
cut_number_of junk c = number_by cut_number (cut_answer (junk ∷ []) c)

-- a byte and CS# high want CS# low, and everything else wants it high; a frame has at most 4,096 bytes
abbrev pub allowed : Record → OnBench → Bool
allowed (Byte b) s = s.selected && nat_lt (length s.frame) 4096
allowed SelectLow s = not s.selected
allowed (SelectHigh odd) s = s.selected
allowed (Ticks count) s = not s.selected
allowed (WpPin level) s = not s.selected
allowed (PowerCut junk) s = not s.selected

abbrev pub with_chip : Chip → OnBench → OnBench
with_chip c s = record { chip = c; selected = s.selected; frame = s.frame }

-- what an allowed record does
abbrev pub played : Record → OnBench → OnBench
played (Byte b) s = record { chip = s.chip; selected = s.selected; frame = s.frame ++ b ∷ [] }
played SelectLow s = record { chip = s.chip; selected = true; frame = [] }
played (SelectHigh odd) s = record { chip = frame_after s.chip s.frame odd (length s.frame); selected = false; frame = s.frame }
played (Ticks count) s = with_chip (ticked count s.chip) s
played (WpPin level) s = with_chip (pin_after level s.chip) s
played (PowerCut junk) s = with_chip (cut_after (junk ∷ []) s.chip) s

-- what it prints, where the next line has this number
abbrev pub printed : Record → ℕ → OnBench → List ℕ
printed (Byte b) line s = []
printed SelectLow line s = []
printed (SelectHigh odd) line s = line_text line (frame_number s.chip s.frame odd) (frame_shown s.chip s.frame odd)
printed (Ticks count) line s = line_text line 0 []
printed (WpPin level) line s = line_text line (pin_number_of level) []
printed (PowerCut junk) line s = line_text line (cut_number_of junk s.chip) []

-- an allowed record was played, and its text printed
pub record Played (r : Record) (line : ℕ) (before after : OnBench) (out out' : List ℕ) : Type 0 where
  pub state : after ≡ played r before
  pub text : out' ≡ out ++ printed r line before
