-- What a get answers.
use Rattle.std.specs.Prelude.{◌≡◌, ℕ, Bool, true, false, ◌&&◌, List, length, Some, None, Ok, Err, Option, Result, ◌≢◌, nat_lt, slice_index}
use Rattle.book.specs.Area.{lies_in}
use Rattle.book.specs.Slots.{slots_in, slot_of}
use Rattle.book.specs.declared.refusal.GetRefusal.{GetRefusal}
use Rattle.book.specs.declared.refusal.GetRefusal.TheVariants.{Range, Busy, Kind, NoRow}

-- what the bytes of a slot read as, for a kind of row whose rows x write `bytes x`: empty if they begin with FF, the
-- row that writes them, or no row: they begin with another kind, or no row of the kind writes them
abbrev pub SlotReads : {R : Type 0} → ℕ → (R → List ℕ) → List ℕ → Result (Option R) GetRefusal → Type 0
SlotReads kind bytes slot (Ok None) = slice_index slot 0 ≡ 255
SlotReads kind bytes slot (Ok (Some x)) = bytes x ≡ slot
SlotReads kind bytes slot (Err Range) = ⊥
SlotReads kind bytes slot (Err Busy) = ⊥
SlotReads kind bytes slot (Err Kind) = (slice_index slot 0 ≢ 255) × (slice_index slot 0 ≢ kind)
SlotReads {R} kind bytes slot (Err NoRow) = (slice_index slot 0 ≡ kind) × ((x : R) → bytes x ≢ slot)

-- there is such a slot, and the book lies in a flash of so many bytes
abbrev pub in_reach : ℕ → ℕ → ℕ → ℕ → ℕ → Bool
in_reach start len body i capacity = nat_lt i (slots_in body len) && lies_in start len capacity

-- a get: 1 unless the slot is in reach, then 2 unless the flash is ready, then what the slot reads as
pub record Gets {R : Type 0} (kind body : ℕ) (bytes : R → List ℕ) (start len i : ℕ) (held : List ℕ) (ready : Bool) (answer : Result (Option R) GetRefusal) : Type 0 where
  pub outside : in_reach start len body i (length held) ≡ false → answer ≡ Err Range
  pub busy : in_reach start len body i (length held) ≡ true → ready ≡ false → answer ≡ Err Busy
  pub reads : in_reach start len body i (length held) ≡ true → ready ≡ true → SlotReads kind bytes (slot_of start body i held) answer
