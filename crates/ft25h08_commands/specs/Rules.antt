-- The refusals of a frame, in their order.
use Rattle.std.specs.Prelude.{ℕ, ◌-◌, ◌%◌, Bool, true, false, cond, not, ◌&&◌, ◌||◌, ltb, List, [], ◌∷◌, length, Ok, Err, Result, ◌==◌, nat_eq, nat_lt}
use Rattle.ft25h08_commands.specs.Frames.{among, code_in, address_in, change_codes, quad_codes, security_codes, status_codes, chip_codes, region_of}
use Rattle.cells.specs.Tests.{any_in}
use Rattle.ft25h08_commands.specs.Protection.{protected_by}
use Rattle.ft25h08_commands.specs.Shapes.{shape_of, is_listed, fits}
use Rattle.ft25h08_commands.specs.Status.{protects_some}
use Rattle.ft25h08_commands.specs.declared.admission.FrameRefusal.{FrameRefusal}
use Rattle.ft25h08_commands.specs.declared.admission.FrameRefusal.TheVariants.{Size, Busy, Protected, Asleep, Unlisted, Shape, NotEnabled, QuadDisabled, Locked, NoSuchRegister}
use Rattle.ft25h08_commands.specs.declared.conditions.Conditions.{Conditions}
use Rattle.ft25h08_commands.specs.declared.conditions.Mode.{Mode}
use Rattle.ft25h08_commands.specs.declared.conditions.Mode.TheVariants as mode

-- the number of each refusal; an accepted frame answers 0
abbrev pub number_of : FrameRefusal → ℕ
number_of Size = 1
number_of Busy = 2
number_of Protected = 3
number_of Asleep = 4
number_of Unlisted = 5
number_of Shape = 6
number_of NotEnabled = 7
number_of QuadDisabled = 8
number_of Locked = 9
number_of NoSuchRegister = 10

-- a check, and the refusal it answers with where it fails
pub record Rule : Type 0 where
  pub fails : Bool
  pub answers : FrameRefusal

infixr 21 ◌⇒◌
abbrev pub ◌⇒◌ : Bool → FrameRefusal → Rule
b ⇒ refusal = record { fails = b; answers = refusal }

-- the first check to fail answers; where none does, the frame is accepted
abbrev pub verdict : List Rule → Result (Unit {0}) FrameRefusal
verdict [] = Ok tt
verdict (r ∷ rs) = cond r.fails (Err r.answers) (verdict rs)

abbrev pub is_asleep : Mode → Bool
is_asleep mode.Idle = false
is_asleep mode.Asleep = true
is_asleep mode.Busy = false

abbrev pub is_busy : Mode → Bool
is_busy mode.Idle = false
is_busy mode.Asleep = false
is_busy mode.Busy = true

-- the first of the n addresses, n at a time, that hold the address a
abbrev pub start_of : ℕ → ℕ → ℕ
start_of a n = a - a % n

-- an array byte of the page, sector or block is protected; an erase of the whole array fails wherever BP or CMP
-- is not 0
unfoldable pub touches_protected : Conditions → ℕ → ℕ → ℕ → Bool
touches_protected c capacity code at =
    cond (among code chip_codes)
    (protects_some c.settings)
    (any_in (protected_by c.settings) (start_of (at % capacity) (region_of code)) (region_of code))

-- the security registers cannot be changed while LB is 1, nor the status while SRP is 1 and WP# low
abbrev pub is_locked : Conditions → ℕ → Bool
is_locked c code = (among code (0x42 ∷ 0x44 ∷ []) && c.settings.lb) || (code == 0x01 && (c.settings.srp && not c.wp_high))

-- the checks, in order, of a frame with odd further bits on an array of so many bytes, where the answer buffer
-- has so much room
abbrev pub rules : Conditions → ℕ → List ℕ → ℕ → ℕ → List Rule
rules c capacity frame odd room =
    (nat_lt 4096 (length frame) || nat_lt 7 odd || ltb room (length frame) ⇒ Size)
    ∷ (nat_eq (length frame) 0 ⇒ Shape)
    ∷ (is_asleep c.mode && not (code_in frame == 0xAB) ⇒ Asleep)
    ∷ (not (is_listed (shape_of (code_in frame))) ⇒ Unlisted)
    ∷ (is_busy c.mode && not (among (code_in frame) status_codes) ⇒ Busy)
    ∷ (not (fits (shape_of (code_in frame)) (length frame) odd) ⇒ Shape)
    ∷ (among (code_in frame) change_codes && not c.write_enabled ⇒ NotEnabled)
    ∷ (among (code_in frame) quad_codes && not c.settings.qe ⇒ QuadDisabled)
    ∷ (among (code_in frame) security_codes && ltb 0x3FF (address_in frame) ⇒ NoSuchRegister)
    ∷ (touches_protected c capacity (code_in frame) (address_in frame) ⇒ Protected)
    ∷ (is_locked c (code_in frame) ⇒ Locked)
    ∷ []
