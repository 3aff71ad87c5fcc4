use Rattle.std.proofs.Common.{◌≡◌, ℕ, List, length, ap, ◌∙◌, rules, arith}
use Rattle.cells.specs.Bytes.{changed}
use Rattle.cells.specs.Changes.{anded}
use Rattle.writer.specs.Put.{holding}
use Rattle.writer.proofs.Paging.{anded_places}
use Rattle.writer.proofs.steps.program.Goals as goal

-- ANDed in, the bytes stand
pub returns-clause-after : goal.returns-clause-after
returns-clause-after g c =
    let m = g.F.NorFlash.meaning c.args.flash.now in
    let at = c.args.at in
    let bytes = c.args.bytes.now in
    let is : g.F.NorFlash.meaning c.program_and_wait.new.flash ≡ holding (changed at (length bytes) (anded at bytes) m.bytes) 1 0 m = search rules in
    is ∙ ap (λ (xs : List ℕ). holding xs 1 0 m) (anded_places at bytes m.bytes (λ k. let h = c.type_inv.bytes k in omega arith) c.requires.falls)
