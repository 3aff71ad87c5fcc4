-- What a put row answers, and what it leaves.
use Rattle.std.specs.Prelude.{ℕ, cond, List, Err, Result, nat_lt}
use Rattle.flash.specs.Meaning.{Meaning}
use Rattle.writer.specs.Put.{put_answer}
use Rattle.writer.specs.declared.refusal.PutRefusal.{PutRefusal}
use Rattle.writer.specs.declared.refusal.PutRefusal.TheVariants.{Range}
use Rattle.book.specs.Slots.{slots_in, slot_at}

-- 1 for no such slot, then as a put of the row's bytes at the start of the slot
abbrev pub put_row_answer : ℕ → ℕ → ℕ → ℕ → List ℕ → ℕ → Meaning → Result (ℕ × ℕ × ℕ) PutRefusal
put_row_answer start len body i row room m = cond (nat_lt i (slots_in body len)) (put_answer (slot_at start body i) row room m) (Err Range)
