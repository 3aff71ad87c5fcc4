use Rattle.std.proofs.Common.{◌∙◌}
use Rattle.ft25h08.specs.State.{chip_of}
use Rattle.ft25h08_flash.specs.Taking.{ticks_on}
use Rattle.ft25h08_flash.proofs.taken.calls.Ft25h08FlashNorFlash.tick.Goals as goal

pub returns : goal.returns
returns c =
    let f = c.args.self.now in
    c.tick_chip.ensures ∙ ticks_on (chip_of f.chip) f.tallies.programs f.tallies.erases f.taken
