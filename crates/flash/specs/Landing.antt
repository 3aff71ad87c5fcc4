-- What an image has under way, once it has landed.
use Rattle.std.specs.Prelude.{◌≡◌, ℕ, min, Bool, List, length, take, Option, Some, None, refl}
use Rattle.std.proofs.Common.{ap, arith}
use Rattle.cells.specs.Changes.{anded, erased}
use Rattle.cells.proofs.Ranges.{length-changed}
use Rattle.flash.specs.Meaning.{after_tick}
use Rattle.flash.specs.Pendings.{landed, meaning_of, ticks_of}
use Rattle.flash.specs.declared.image.Pending.{Pending}
use Rattle.flash.specs.declared.image.Pending.TheVariants.{Program, Erase}

-- as many bytes as before
pub length-landed : (p : Option Pending) (old : List ℕ) → length (landed p old) ≡ length old
length-landed None old = refl
length-landed (Some (Program at count new)) old = length-changed at (length (take (min count 256) new)) (anded at (take (min count 256) new)) old
length-landed (Some (Erase first)) old = length-changed first 4096 erased old

-- with nothing under way the later bytes are the bytes
pub landed_rest : (p : Option Pending) (old : List ℕ) → ticks_of p ≡ 0 → landed p old ≡ old
landed_rest None old h = refl
landed_rest (Some p) old h = absurd (omega arith)

-- one tick lands it
pub tick_lands : (p : Option Pending) (old new : List ℕ) (marks : List Bool) (programs erases : ℕ) → new ≡ landed p old → meaning_of None new marks programs erases ≡ after_tick (meaning_of p old marks programs erases)
tick_lands None old new marks programs erases e = ap (λ (xs : List ℕ). meaning_of None xs marks programs erases) e
tick_lands (Some p) old new marks programs erases e = ap (λ (xs : List ℕ). meaning_of None xs marks programs erases) e
