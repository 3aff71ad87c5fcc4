use Rattle.std.proofs.Common.{◌≡◌, ℕ, ◌<◌, length, get_or}
use Rattle.cells.specs.Bytes.{changed_at}
use Rattle.cells.specs.Changes.{from}
use Rattle.cells.proofs.range.change_range.Given as goal

-- the cells of the range before k are done, by each rule that the closure follows
abbrev pub invariant-loop-k : goal.invariant-loop-k
invariant-loop-k g l =
    (r : ℕ → ℕ → ℕ) → ((a old new : ℕ) → goal.F-post g l.rule a old new → new ≡ r a old)
    → (k : ℕ) → k < length l.initial.cell-items → get_or l.cell-items k 0 ≡ changed_at 0 l.k (from l.first r) l.initial.cell-items k
