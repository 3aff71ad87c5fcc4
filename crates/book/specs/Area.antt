-- The area of a book.
use Rattle.std.specs.Prelude.{ℕ, ◌+◌, ◌%◌, Bool, cond, ◌&&◌, Ok, Err, Result, ◌==◌, nat_le}
use Rattle.flash.specs.declared.refusal.FlashRefusal.{FlashRefusal}
use Rattle.flash.specs.declared.refusal.FlashRefusal.TheVariants.{Range, Busy}

-- an area: at least one sector, whole sectors of 4,096 bytes
abbrev pub is_area : ℕ → ℕ → Bool
is_area start len = nat_le 1 len && (start % 4096 == 0 && len % 4096 == 0)

-- it lies in a flash of so many bytes
abbrev pub lies_in : ℕ → ℕ → ℕ → Bool
lies_in start len capacity = nat_le (start + len) capacity

-- making a book: an area that lies in the flash, then a flash that is ready
abbrev pub book_answer : ℕ → ℕ → ℕ → Bool → Result (ℕ × ℕ) FlashRefusal
book_answer start len capacity ready =
    cond (is_area start len && lies_in start len capacity) (cond ready (Ok (start, len)) (Err Busy)) (Err Range)
