use Rattle.std.proofs.Common.{ℕ, not, eqb, ◌∙◌, rules, tests}
use Rattle.std.proofs.lemmas.Iterator.{YieldsList-from_slice}
use Rattle.std.proofs.lemmas.Iterator.Search.{any_from_yields_List}
use Rattle.writer.proofs.Comparing.{any_at}
use Rattle.writer.proofs.compare.any_written.Goals as goal

pub returns : goal.returns
returns c =
    any_from_yields_List (λ (x : ℕ). not (eqb 255 x)) _ _ _ c.any.ensures.ran (YieldsList-from_slice c.args.new.now cc) (λ x b q k. search (rules, tests))
    ∙ any_at (λ (x : ℕ). not (eqb 255 x)) 0 c.args.new.now
