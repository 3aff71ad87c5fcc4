-- The lower block of the chip is what the image's marks say.
use Rattle.std.proofs.Common.{◌≡◌, ℕ, ◌+◌, ◌*◌, min, max, Bool, ltb, List, map, length, sym, refl, ap, ◌∙◌}
use lib.ListN.{length-replicate}
use Rattle.std.specs.List.{range_with_len}
use Rattle.cells.proofs.Spans.{meets_any}
use Rattle.ft25h08_commands.specs.Protection.{protected_by}
use Rattle.ft25h08.specs.Birth.{newborn}
use Rattle.ft25h08.specs.Counts.{bench_ticks}
use Rattle.ft25h08_flash.specs.ChipFlash.{chip_meaning, marks_of, sector_mark}
use Rattle.images.specs.Subjects.{blank, lower_marks, lower_block, with_settings, at_first}

-- a sector is marked where it begins below the end of the block
touches : ℕ → Bool
touches sector = ltb (max 0 (sector * 4096)) (min (sector * 4096 + 4096) 65536)

is_touched : (sector : ℕ) → sector_mark lower_block sector ≡ touches sector
unfolding touches
is_touched sector = sym (meets_any (protected_by lower_block) 0 65536 (sector * 4096) 4096 (λ a. refl))

marks_lower : marks_of lower_block 131072 ≡ lower_marks
unfolding marks_of touches
marks_lower = ap (λ (f : ℕ → Bool). map f (range_with_len 0 32)) (λ i sector. is_touched sector i)

length-blank : (n : ℕ) → length (blank n) ≡ n
unfolding blank
length-blank n = length-replicate n 255

-- the chip whose lower block is protected means what the image does
pub chip_at_first : chip_meaning (with_settings lower_block (newborn (blank 131072) bench_ticks)) 0 0 ≡ at_first 3 5
chip_at_first =
    ap (λ (marks : List Bool). record { bytes = blank 131072; left = 0; later = blank 131072; marks = marks; programs = 0; erases = 0; program_ticks = 3; erase_ticks = 5 })
    (ap (marks_of lower_block) (length-blank 131072) ∙ marks_lower)
