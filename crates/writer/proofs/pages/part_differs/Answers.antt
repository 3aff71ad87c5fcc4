use Rattle.std.specs.Borrow.{Bor}
use Rattle.std.proofs.Common.{ℕ, ◌+◌, ◌-◌, not, eqb, List, length, get_or, take, drop, Option, sym, refl, ap, ◌∙◌, arith}
use Rattle.cells.proofs.Spans.{any_same}
use Rattle.writer.specs.Before.{byte_before}
use Rattle.writer.specs.Needed.{differs_at}
use Rattle.writer.proofs.Placing.{read_from}
use Rattle.writer.proofs.pages.part_differs.Goals as goal

-- the bytes that were there lie at the same places behind `pos`
pub returns-in-Some : goal.returns-in-Some
returns-in-Some c =
    let part = c.args.part.now in
    let pos = c.args.pos in
    let old = c.in-Some.old.now in
    let n = pos + length part - pos in
    c.any_differs.ensures
    ∙ any_same (differs_at (take n (drop pos old)) part) (λ k. not (eqb (byte_before c.args.before (pos + k)) (get_or part k 0))) 0 (length part)
    (λ k low high.
    ap (λ (x : ℕ). not (eqb x (get_or part k 0))) (read_from old (take n (drop pos old)) pos n refl k (omega arith))
    ∙ ap (λ (b : Option (Bor (List ℕ))). not (eqb (byte_before b (pos + k)) (get_or part k 0))) (sym c.in-Some.is))
