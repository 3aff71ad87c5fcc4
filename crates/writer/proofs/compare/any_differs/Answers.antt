use Rattle.std.proofs.Common.{not, eqb, ◌∙◌}
use Rattle.writer.proofs.Comparing.{any_pair, any_unlike}
use Rattle.writer.proofs.compare.any_differs.Goals as goal

pub returns : goal.returns
returns c =
    let old = c.args.old.now in
    let new = c.args.new.now in
    c.are_unlike.ensures ∙ any_unlike old new c.requires ∙ any_pair (λ x y. not (eqb x y)) old new c.requires
