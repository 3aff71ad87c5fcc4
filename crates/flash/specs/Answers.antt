-- What each call answers: the checks in their order.
use Rattle.std.specs.Prelude.{ℕ, ◌+◌, ◌*◌, ◌/◌, ◌%◌, Bool, false, cond, ◌&&◌, List, length, Ok, Err, Result, ◌==◌, nat_le, nat_lt, slice_index_or}
use Rattle.flash.specs.Meaning.{Meaning}
use Rattle.flash.specs.declared.in_progress.InProgress.{InProgress}
use Rattle.flash.specs.declared.refusal.FlashRefusal.{FlashRefusal}
use Rattle.flash.specs.declared.refusal.FlashRefusal.TheVariants.{Range, Busy, Protected}

-- a read: inside the bytes, then ready
abbrev pub read_answer : ℕ → ℕ → List ℕ → Bool → Result (Unit {0}) FlashRefusal
read_answer at n bytes ready = cond (nat_le (at + n) (length bytes)) (cond ready (Ok tt) (Err Busy)) (Err Range)

-- the mark of a change that has just started
abbrev pub fresh : InProgress
fresh = record { spent = false }

-- 1 to 256 bytes in one page below the end
abbrev pub in_page : ℕ → ℕ → ℕ → Bool
in_page at n end = nat_le 1 n && (nat_le (at % 256 + n) 256 && nat_le (at + n) end)

-- a start: in its place, then ready, then not protected
abbrev pub start_answer : Bool → ℕ → Meaning → Result InProgress FlashRefusal
start_answer in_place sector m =
    cond in_place (cond (m.left == 0) (cond (slice_index_or m.marks sector false) (Err Protected) (Ok fresh)) (Err Busy)) (Err Range)

-- what is in the way of a start in its place: not ready, then protected
abbrev pub start_refusal : Bool → Bool → Result (Unit {0}) FlashRefusal
start_refusal ready protected = cond ready (cond protected (Err Protected) (Ok tt)) (Err Busy)

abbrev pub program_answer : ℕ → ℕ → Meaning → Result InProgress FlashRefusal
program_answer at n m = start_answer (in_page at n (length m.bytes)) (at / 4096) m

abbrev pub erase_answer : ℕ → Meaning → Result InProgress FlashRefusal
erase_answer sector m = start_answer (nat_lt sector (length m.marks)) sector m

-- the mark of a sector that there is
abbrev pub mark_answer : ℕ → Meaning → Result Bool FlashRefusal
mark_answer sector m = cond (nat_lt sector (length m.marks)) (Ok (slice_index_or m.marks sector false)) (Err Range)

-- making an image: whole sectors, 1 to 256 of them, and a mark for each
abbrev pub image_answer : ℕ → ℕ → Result (Unit {0}) FlashRefusal
image_answer bytes marks = cond (bytes == 4096 * marks && (nat_le 1 marks && nat_le marks 256)) (Ok tt) (Err Range)

-- making a file image: whole sectors, 1 to 256 of them
abbrev pub file_answer : ℕ → Result (Unit {0}) FlashRefusal
file_answer bytes = cond (bytes % 4096 == 0 && (nat_le 4096 bytes && nat_le bytes 1048576)) (Ok tt) (Err Range)
