use Rattle.std.proofs.Common.{◌≡◌, ℕ, ◌+◌, ◌-◌, ◌*◌, ◌%◌, length, take, drop, ap, ◌∙◌, arith, rules}
use Rattle.std.proofs.lemmas.Nat.{mod-mul-add}
use Rattle.cells.specs.Bytes.{wrapped}
use Rattle.cells.proofs.Ranges.{counted_all}
use Rattle.cells.proofs.Stretches.{stretch_copied, round_ends}
use Rattle.cells.proofs.drive.copy_wrapped.Goals as goal

pub loop-pos-init : goal.loop-pos-init
loop-pos-init c =
    let cells = c.args.cells.now in
    let whole : c.args.start + 0 ≡ 0 * length cells + c.args.start = omega arith in (
      omega arith,
      c.requires,
      λ some. ap (λ (a : ℕ). a % length cells) whole ∙ mod-mul-add 0 (length cells) c.args.start c.requires,
      λ k h. absurd (omega arith),
    )

pub loop-pos-preserved : goal.loop-pos-preserved
loop-pos-preserved c =
    let cells = c.args.cells.now in
    let pos = c.loop-pos.pos in
    let next = c.loop-pos.next in
    let m = c.stretch-len.result in
    let at = c.loop-pos.invariant.2 (omega arith) in (
      omega arith,
      omega arith,
      λ more. round_ends c.args.start pos next m (length cells) at (omega arith) (omega arith),
      stretch_copied c.loop-pos.part cells c.copy_from_slice.new.self c.args.start pos next m (pos + m - pos)
          at (omega arith) (omega arith) (omega arith)
          (let n : next + m - next ≡ pos + m - pos = omega arith in c.copy_from_slice.ensures.after ∙ ap (λ (i : ℕ). take i (drop next cells)) n)
          c.loop-pos.invariant.3,
    )

pub returns : goal.returns
returns c =
    counted_all (λ k. wrapped c.args.cells.now (c.args.start + k)) (length c.args.part.now) c.loop-pos.part (search rules)
    (λ a h. c.loop-pos.invariant.3 a (omega arith))
