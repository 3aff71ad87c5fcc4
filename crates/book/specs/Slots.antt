-- Where the slots of a book lie: one behind the other, each as long as a row.
use Rattle.std.specs.Prelude.{ℕ, ◌+◌, ◌*◌, ◌/◌, cond, List, take, drop, Some, None, Option, nat_lt}

-- how many slots fit wholly into an area; a kind whose rows are too long has none
abbrev pub slots_in : ℕ → ℕ → ℕ
slots_in body len = cond (nat_lt body 255) (len / (1 + body)) 0

-- where a slot starts
abbrev pub slot_at : ℕ → ℕ → ℕ → ℕ
slot_at start body i = start + i * (1 + body)

-- where a slot starts, if there is such a slot
abbrev pub place_of : ℕ → ℕ → ℕ → ℕ → Option ℕ
place_of start len body i = cond (nat_lt i (slots_in body len)) (Some (slot_at start body i)) None

-- the bytes of a slot
abbrev pub slot_of : ℕ → ℕ → ℕ → List ℕ → List ℕ
slot_of start body i bytes = take (1 + body) (drop (slot_at start body i) bytes)
