-- What an image has under way: how long it takes, and what it leaves.
use Rattle.std.specs.Prelude.{ℕ, min, Bool, List, length, take, Option, Some, None}
use Rattle.cells.specs.Bytes.{changed}
use Rattle.cells.specs.Changes.{anded, erased}
use Rattle.flash.specs.Meaning.{Meaning}
use Rattle.flash.specs.declared.image.Pending.{Pending}
use Rattle.flash.specs.declared.image.Pending.TheVariants.{Program, Erase}

-- one tick for either change
abbrev pub ticks_of : Option Pending → ℕ
ticks_of None = 0
ticks_of (Some p) = 1

-- the bytes once it has landed
abbrev pub landed : Option Pending → List ℕ → List ℕ
landed None old = old
landed (Some (Program at count new)) old = changed at (length (take (min count 256) new)) (anded at (take (min count 256) new)) old
landed (Some (Erase first)) old = changed first 4096 erased old

-- what an image with a change under way means
abbrev pub meaning_of : Option Pending → List ℕ → List Bool → ℕ → ℕ → Meaning
meaning_of p old marks programs erases = record { bytes = old; left = ticks_of p; later = landed p old; marks = marks; programs = programs; erases = erases; program_ticks = 1; erase_ticks = 1 }
