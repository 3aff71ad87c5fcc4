-- Writing and reading a row, for a kind of row whose rows x write `bytes x`.
use Rattle.std.specs.Prelude.{◌≡◌, ℕ, ◌+◌, Bool, true, cond, ◌&&◌, List, length, Ok, Err, Result, ◌==◌, ◌≢◌, nat_lt, slice_index}
use Rattle.rows.specs.declared.refusal.RowRefusal.{RowRefusal}
use Rattle.rows.specs.declared.refusal.RowRefusal.TheVariants.{Length, Kind, NoRow}

-- n bytes are as many as a row has: the kind byte and the body. A body of 255 stands for rows that are too long
abbrev pub is_row_long : ℕ → ℕ → Bool
is_row_long body n = nat_lt body 255 && n == 1 + body

-- what writing into n lent bytes answers
abbrev pub write_answer : ℕ → ℕ → Result (Unit {0}) RowRefusal
write_answer body n = cond (is_row_long body n) (Ok tt) (Err Length)

-- the lent bytes afterwards: those of the row, or after a refusal the old ones
abbrev pub written_into : Result (Unit {0}) RowRefusal → List ℕ → List ℕ → List ℕ
written_into (Ok u) row old = row
written_into (Err r) row old = old

-- what reading the bytes bs answers: the row that writes just them. It refuses bytes that are not as many as a row has,
-- then those that begin with another kind, then those that no row writes
abbrev pub ReadsAs : {R : Type 0} (kind body : ℕ) (bytes : R → List ℕ) → List ℕ → Result R RowRefusal → Type 0
ReadsAs kind body bytes bs (Ok x) = (is_row_long body (length bs) ≡ true) × (bytes x ≡ bs)
ReadsAs kind body bytes bs (Err Length) = is_row_long body (length bs) ≡ true → ⊥
ReadsAs kind body bytes bs (Err Kind) = (is_row_long body (length bs) ≡ true) × (slice_index bs 0 ≢ kind)
ReadsAs {R} kind body bytes bs (Err NoRow) = (is_row_long body (length bs) ≡ true) × (slice_index bs 0 ≡ kind) × ((x : R) → bytes x ≢ bs)

-- reading what a row writes gives that row
abbrev pub read_back_answer : {R : Type 0} (body n : ℕ) → R → Result R RowRefusal
read_back_answer body n x = cond (is_row_long body n) (Ok x) (Err Length)

-- making a row: what it is to hold, if that is inside the limits
abbrev pub make_answer : {A : Type 0} → Bool → A → Result A RowRefusal
make_answer inside held = cond inside (Ok held) (Err NoRow)

-- what a row that was made holds
abbrev pub held_by : {R A : Type 0} → (R → A) → Result R RowRefusal → Result A RowRefusal
held_by held (Ok x) = Ok (held x)
held_by held (Err e) = Err e
