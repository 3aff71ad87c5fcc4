-- The line of a frame: its answer buffer is as long as the frame, so it holds what is driven and nothing else.
use Rattle.std.proofs.Common.{◌≡◌, ℕ, List, [], length, Ok, Err, MatchResult, Result, sym, refl, ap, ◌∙◌, arith}
use Rattle.cells.specs.Bytes.{counted}
use Rattle.cells.specs.Driven.{driven, silent}
use Rattle.cells.proofs.Ranges.{counted_all, length-changed, get_or-changed, changed_inside}
use Rattle.ft25h08_commands.specs.Frames.{command_in}
use Rattle.ft25h08_commands.specs.Rules.{number_of}
use Rattle.ft25h08_commands.specs.declared.admission.FrameRefusal.{FrameRefusal}
use Rattle.ft25h08_commands.specs.declared.admission.FrameRefusal.TheVariants as refusal
use Rattle.ft25h08.specs.Accepted.{driven_by}
use Rattle.ft25h08.specs.Chip.{Chip}
use Rattle.ft25h08.specs.Frame.{frame_answer, answer_after, buffer_by, by_size}
use Rattle.bench.specs.Plays.{frame_number, frame_shown, number_by, shown_by}
use Rattle.bench.specs.Texts.{line_text}

-- a buffer of n bytes, all driven
driven_whole : (f : ℕ → ℕ) (n : ℕ) (old : List ℕ) → length old ≡ n → driven f n old ≡ counted f n
driven_whole f n old l =
    counted_all f n (driven f n old) (length-changed 0 n (λ i _. f i) old ∙ l)
    (λ a h. get_or-changed 0 n (λ i _. f i) old a (omega arith) ∙ changed_inside 0 n (λ i _. f i) old a (omega arith) (omega arith))

twice : (r : FrameRefusal) (old blank : List ℕ) → by_size r [] (by_size r old blank) ≡ by_size r [] blank
twice refusal.Size old blank = refl
twice refusal.Busy old blank = refl
twice refusal.Protected old blank = refl
twice refusal.Asleep old blank = refl
twice refusal.Unlisted old blank = refl
twice refusal.Shape old blank = refl
twice refusal.NotEnabled old blank = refl
twice refusal.QuadDisabled old blank = refl
twice refusal.Locked old blank = refl
twice refusal.NoSuchRegister old blank = refl

-- what is shown of the buffer that an answer left
shown_of : (v : Result (Unit {0}) FrameRefusal) (full old blank : List ℕ) → shown_by v (buffer_by v full old blank) (buffer_by v full old blank) ≡ shown_by v full blank
shown_of (Ok u) full old blank = refl
shown_of (Err r) full old blank = twice r old blank

-- the number of an answer
numbered : (v : Result (Unit {0}) FrameRefusal) (n : ℕ) → MatchResult v (λ _. n ≡ 0) (λ r. n ≡ number_of r) → n ≡ number_by number_of v
numbered (Ok u) n h = h
numbered (Err r) n h = h

-- the line of an answer v with its number n, shown from the buffer that the chip left
pub line_of : (v : Result (Unit {0}) FrameRefusal) (n : ℕ) (c : Chip) (frame : List ℕ) (odd : ℕ) (old buffer : List ℕ) (line : ℕ) → length old ≡ length frame → v ≡ frame_answer c frame odd (length old) → MatchResult v (λ _. n ≡ 0) (λ r. n ≡ number_of r) → buffer ≡ answer_after c frame odd old → line_text line n (shown_by v buffer buffer) ≡ line_text line (frame_number c frame odd) (frame_shown c frame odd)
line_of v n c frame odd old buffer line l is told left =
    let full = counted (driven_by (command_in frame) c) (length frame) in
    let blank = counted silent (length frame) in
    let answer : v ≡ frame_answer c frame odd (length frame) = is ∙ ap (λ (k : ℕ). frame_answer c frame odd k) l in
    let holds : buffer ≡ buffer_by v full old blank =
    left
    ∙ ap (λ (w : Result (Unit {0}) FrameRefusal). buffer_by w (driven (driven_by (command_in frame) c) (length frame) old) old (driven silent (length frame) old)) (sym is)
    ∙ ap (λ (xs : List ℕ). buffer_by v xs old (driven silent (length frame) old)) (driven_whole (driven_by (command_in frame) c) (length frame) old l)
    ∙ ap (λ (xs : List ℕ). buffer_by v full old xs) (driven_whole silent (length frame) old l) in
    ap (λ (k : ℕ). line_text line k (shown_by v buffer buffer)) (numbered v n told)
    ∙ ap (λ (xs : List ℕ). line_text line (number_by number_of v) xs) (ap (λ (xs : List ℕ). shown_by v xs xs) holds ∙ shown_of v full old blank)
    ∙ ap (λ (w : Result (Unit {0}) FrameRefusal). line_text line (number_by number_of w) (shown_by w full blank)) answer
