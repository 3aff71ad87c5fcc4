use Rattle.std.proofs.Common.{ℕ, List, length, ◌∙◌, arith, rules, tests}
use Rattle.std.proofs.lemmas.Iterator.{YieldsList-from_zip}
use Rattle.std.proofs.lemmas.Iterator.Search.{any_from_yields_List}
use Rattle.std.specs.List.{list_any, zip}
use Rattle.cells.specs.Bits.{rises}
use Rattle.writer.proofs.Comparing.{any_pair}
use Rattle.writer.proofs.Chunks.{YieldsList-from_chunks, any_chunk}
use Rattle.writer.proofs.compare.any_rises.Goals as goal

pub returns : goal.returns
returns c =
    let old = c.args.old.now in
    let new = c.args.new.now in
    any_from_yields_List (λ (p : List ℕ × List ℕ). list_any (λ (q : ℕ × ℕ). rises q.0 q.1) (zip p.0 p.1)) c.any.new.self _ _ c.any.ensures.ran
    (YieldsList-from_zip (YieldsList-from_chunks (length old) 256 old (omega arith) (omega arith) (cc) (cc)) (YieldsList-from_chunks (length old) 256 new (omega (arith, c.requires)) (omega arith) (cc) (cc)))
    (λ x b q k. search (rules, tests))
    ∙ any_chunk (λ (q : ℕ × ℕ). rises q.0 q.1) (length old) 256 old new c.requires (omega arith) (omega arith)
    ∙ any_pair rises old new c.requires
