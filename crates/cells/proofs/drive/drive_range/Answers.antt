use Rattle.std.proofs.Common.{◌≡◌, ℕ, ◌+◌, ◌-◌, ◌%◌, ◌<◌, List, length, ap, ◌∙◌, inl, inr, arith, rules}
use borrow.Rule.Slice.PartMut.{put_mid}
use Rattle.std.proofs.lemmas.List.{places}
use Rattle.std.proofs.lemmas.Bool.Decides.{nat_tests}
use Rattle.cells.specs.Bytes.{counted, wrapped}
use Rattle.cells.specs.Driven.{silent}
use Rattle.cells.proofs.Driving.{nothing_read, cells_read}
use Rattle.cells.proofs.Ranges.{length-changed}
use Rattle.cells.proofs.drive.drive_range.Goals as goal
use Rattle.cells.proofs.drive.drive_range.Goals.{else-skip-end-via-then-skip-end+else-not-is_empty, else-skip-end-via-else-skip-end}

pub returns-then-not-is_empty : goal.returns-then-not-is_empty
returns-then-not-is_empty c =
    let old = c.args.answer.now in
    let cells = c.args.cells.now in
    let skip = c.args.skip in
    let end = c.min-end.result in
    let copied = c.copy_wrapped.new.part in
    let blank = c.drive_nothing.ensures.after in
    let l : length c.drive_nothing.new.answer ≡ length c.args.answer.now = ap length blank ∙ length-changed 0 c.args.n (λ i _. silent i) old in
    let some : 0 < length c.args.cells.now = grind (arith, nat_tests) in
    record {
      after =
          ap (λ (xs : List ℕ). put_mid skip (end - skip) xs copied) blank
          ∙ cells_read old cells copied c.args.n c.args.at skip end (omega arith) c.if-skip-end.true some
          (c.copy_wrapped.ensures ∙ ap (λ (m : ℕ). counted (λ k. wrapped cells (c.args.at % length cells + k)) m) (search (rules, places)));
    }

pub returns-else-skip-end : goal.returns-else-skip-end
returns-else-skip-end c =
    let old = c.args.answer.now in
    let cells = c.args.cells.now in
    let blank = c.drive_nothing.ensures.after in
    let l : length c.drive_nothing.new.answer ≡ length c.args.answer.now = ap length blank ∙ length-changed 0 c.args.n (λ i _. silent i) old in
    record {
      after =
          blank
          ∙ nothing_read old cells c.args.n c.args.at c.args.skip
          (elim c.else-skip-end.branch [
            | else-skip-end-via-then-skip-end+else-not-is_empty w ↦ inr (grind (arith, nat_tests))
            | else-skip-end-via-else-skip-end w ↦ inl (omega (arith, w.if-skip-end.false))
          ]);
    }
