-- What a taken chip means.
use Rattle.std.proofs.Common.{subst}
use Rattle.std.specs.Prelude.{◌≡◌, ℕ, ◌≤◌, true, length}
use Rattle.ft25h08_commands.specs.Sizes.{is_capacity}
use Rattle.ft25h08_commands.proofs.Sizing.{capacity_most}
use Rattle.flash.specs.Meaning.{Meaning}
use Rattle.ft25h08.specs.State.{chip_of}
use Rattle.ft25h08_flash.specs.ChipFlash.{chip_meaning}
use Rattle.ft25h08_flash.specs.declared.taken.Ft25h08Flash.{Ft25h08Flash}

abbrev pub flash_meaning : Ft25h08Flash → Meaning
flash_meaning f = chip_meaning (chip_of f.chip) f.tallies.programs f.tallies.erases

-- the array's length is one of the five
pub taken_whole : (f : Ft25h08Flash) → is_capacity (length (flash_meaning f).bytes) ≡ true
taken_whole f = subst (λ (n : ℕ). is_capacity n ≡ true) f.chip.array.ok.0 f.chip.whole

-- at most 256 sectors
pub taken_most : (f : Ft25h08Flash) → length (flash_meaning f).bytes ≤ 1048576
taken_most f = capacity_most (length (flash_meaning f).bytes) (taken_whole f)
