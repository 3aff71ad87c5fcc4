use Rattle.std.proofs.lemmas.List.{get_or-replicate}
use Rattle.ft25h08.proofs.register.Register.new.Goals as goal

pub returns : goal.returns
returns c k h = get_or-replicate 256 k 255 0 h
