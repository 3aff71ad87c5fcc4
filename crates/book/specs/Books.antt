-- What a book holds.
use Rattle.std.specs.Prelude.{ℕ, Ok, Err, Result}
use Rattle.flash.specs.declared.refusal.FlashRefusal.{FlashRefusal}
use Rattle.book.specs.declared.area.Book.{Book}

-- the area of a book that was made, or why none was
abbrev pub area_of : Result Book FlashRefusal → Result (ℕ × ℕ) FlashRefusal
area_of (Ok book) = Ok (book.start, book.len)
area_of (Err refusal) = Err refusal
