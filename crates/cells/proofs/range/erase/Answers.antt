use Rattle.std.proofs.Common.{arith, rules}
use Rattle.std.proofs.lemmas.List.{places}
use Rattle.std.proofs.lemmas.Bool.Decides.{nat_tests}
use Rattle.cells.specs.Changes.{erased}
use Rattle.cells.proofs.Ranges.{changed_all, changed_past}
use Rattle.cells.proofs.range.erase.Goals as goal

pub returns-then-first-end : goal.returns-then-first-end
returns-then-first-end c =
    let e = c.fill.ensures.after (λ y h. h) in
    record { after = changed_all c.args.first c.args.len erased c.args.cells.now _ (search (rules, places)) (λ a h. grind (arith, nat_tests, places)) }

pub returns-else-first-end : goal.returns-else-first-end
returns-else-first-end c = record { after = changed_past c.args.first c.args.len erased c.args.cells.now (omega arith) }
