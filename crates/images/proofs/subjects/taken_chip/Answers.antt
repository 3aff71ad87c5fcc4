use Rattle.std.proofs.Common.{◌≡◌, ◌∙◌, rules}
use Rattle.ft25h08.specs.Birth.{newborn}
use Rattle.ft25h08.specs.Counts.{bench_ticks}
use Rattle.ft25h08_flash.specs.ChipFlash.{chip_meaning}
use Rattle.ft25h08_flash.specs.Taken.{flash_meaning}
use Rattle.images.specs.Subjects.{blank, lower_block, with_settings}
use Rattle.images.proofs.Marking.{chip_at_first}
use Rattle.images.proofs.subjects.taken_chip.Goals as goal

pub returns : goal.returns
returns c =
    let born : flash_meaning c.take.result ≡ chip_meaning (with_settings lower_block (newborn (blank 131072) bench_ticks)) 0 0 = search rules in
    born ∙ chip_at_first
