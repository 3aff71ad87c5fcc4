use Rattle.std.proofs.Common.{◌∙◌}
use Rattle.ft25h08_commands.proofs.Codes.{among_any}
use Rattle.ft25h08_commands.proofs.admission.is_among.Goals as goal

pub returns : goal.returns
returns c = c.contains.ensures.value ∙ among_any c.args.code c.args.codes.now
