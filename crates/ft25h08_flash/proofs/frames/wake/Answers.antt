use Rattle.std.proofs.Common.{◌∙◌}
use Rattle.ft25h08.specs.State.{chip_of}
use Rattle.ft25h08_flash.proofs.Sending.{wakes}
use Rattle.ft25h08_flash.proofs.frames.wake.Goals as goal

pub returns : goal.returns
returns c = c.frame.ensures.after ∙ wakes (chip_of c.args.chip.now) c.requires
