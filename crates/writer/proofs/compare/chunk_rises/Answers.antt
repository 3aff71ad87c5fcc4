use Rattle.std.proofs.Common.{ℕ, false, ◌||◌, ◌∙◌, rules, tests}
use Rattle.std.proofs.lemmas.Iterator.{YieldsList-from_slice, YieldsList-from_zip}
use Rattle.std.proofs.lemmas.Iterator.Consumers.{fold_from_yields_List}
use Rattle.std.specs.List.{zip}
use Rattle.cells.specs.Bits.{rises}
use Rattle.writer.proofs.Comparing.{any_folded}
use Rattle.writer.proofs.compare.chunk_rises.Goals as goal

pub returns : goal.returns
returns c =
    let old = c.args.old.now in
    let new = c.args.new.now in
    fold_from_yields_List _ (λ b (p : ℕ × ℕ). b || rises p.0 p.1) false _ c.fold.ensures.ran (YieldsList-from_zip (YieldsList-from_slice old cc) (YieldsList-from_slice new cc)) (λ a x b q k. search (rules, tests))
    ∙ any_folded (λ (p : ℕ × ℕ). rises p.0 p.1) false (zip old new)
