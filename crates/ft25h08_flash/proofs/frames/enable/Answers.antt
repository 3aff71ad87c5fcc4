use Rattle.std.proofs.Common.{◌∙◌}
use Rattle.ft25h08.specs.State.{chip_of}
use Rattle.ft25h08_flash.proofs.Sending.{enables}
use Rattle.ft25h08_flash.proofs.frames.enable.Goals as goal

pub returns : goal.returns
returns c = c.frame.ensures.after ∙ enables (chip_of c.args.chip.now) c.requires
