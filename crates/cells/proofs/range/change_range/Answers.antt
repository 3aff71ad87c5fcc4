use Rattle.std.proofs.Common.{◌≡◌, ℕ, ◌+◌, ◌-◌, ◌<◌, ◌≤◌, min, List, length, get_or, set, take, drop, sym, ap, ◌∙◌, inl, inr, arith, rules}
use borrow.Rule.Slice.PartMut.{put_mid}
use Rattle.std.proofs.lemmas.List.{places, get_or-set_same, get_or-set_other}
use Rattle.std.proofs.lemmas.Bool.{cases_eq, cases_lt}
use Rattle.std.proofs.lemmas.Bool.Decides.{nat_tests}
use Rattle.cells.specs.Bytes.{changed, changed_at}
use Rattle.cells.specs.Changes.{from}
use Rattle.cells.proofs.Ranges.{changed_all, changed_past, changed_inside}
use Rattle.cells.proofs.Stretches.{before_stretch, inside_stretch, after_stretch, length_stretch}
use Rattle.cells.proofs.range.change_range.Goals as goal

-- the bytes before i are changed, and byte i gets its own
step : (i v : ℕ) (g : ℕ → ℕ → ℕ) (xs ys : List ℕ) → i < length xs → length ys ≡ length xs → v ≡ g i (get_or xs i 0) → ((a : ℕ) → a < length xs → get_or ys a 0 ≡ changed_at 0 i g xs a) → (a : ℕ) → a < length xs → get_or (set ys i v) a 0 ≡ changed_at 0 (i + 1) g xs a
step i v g xs ys lt l new done a h =
    elim (cases_eq a i) [
      | inl q ↦
          let s = get_or-set_same ys i v 0 (omega arith) in
          let e = changed_inside 0 (i + 1) g xs i (omega arith) (omega arith) in
          rw q (s ∙ new ∙ sym e)
      | inr ne ↦ get_or-set_other ys i a v 0 ne ∙ done a h ∙ grind (arith, nat_tests)
    ]

pub loop-k-preserved : goal.loop-k-preserved
loop-k-preserved g c r follows =
    let k = c.loop-k.k in
    let part = take (c.end_of-end.result - c.args.first) (drop c.args.first c.args.cells.now) in
    let lt : k < length part = search (rules, places) in
    let same : get_or c.loop-k.cell-items k 0 ≡ get_or part k 0 = c.loop-k.invariant r follows k lt ∙ grind (arith, nat_tests) in
    step k c.rule.result (from c.args.first r) part c.loop-k.cell-items lt (search rules)
    (follows _ _ _ c.rule.ensures ∙ ap (λ (o : ℕ). r (c.args.first + k) o) same) (c.loop-k.invariant r follows)

-- the cells from first to end, all changed by the rule for cells of which the first has the address first
part_changed : (first end len n : ℕ) (g : ℕ → ℕ → ℕ) (xs ys : List ℕ) → first < end → end ≡ min (first + len) (length xs) → end - first ≤ n → length ys ≡ end - first → ((k : ℕ) → k < end - first → get_or ys k 0 ≡ changed_at 0 n (from first g) (take (end - first) (drop first xs)) k) → put_mid first (end - first) xs ys ≡ changed first len g xs
part_changed first end len n g xs ys some ends done l each =
    let m = end - first in
    let part = take m (drop first xs) in
    changed_all first len g xs (put_mid first m xs ys) (length_stretch first m xs ys (omega arith) l)
    (λ a h.
    elim (cases_lt a first) [
      | inl before ↦ before_stretch first m xs ys a (omega arith) l before ∙ grind (arith, nat_tests)
      | inr ge ↦
          elim (cases_lt a end) [
            | inl inside ↦
                let old : get_or part (a - first) 0 ≡ get_or xs a 0 = search (rules, places) in
                let sum : first + (a - first) ≡ a = omega arith in
                let new = changed_inside 0 n (from first g) part (a - first) (omega arith) (omega arith) in
                let is = changed_inside first len g xs a ge (omega arith) in
                inside_stretch first m xs ys a (omega arith) l ge (omega arith) ∙ each (a - first) (omega arith) ∙ cc
            | inr past ↦ after_stretch first m xs ys a (omega arith) l (omega arith) ∙ grind (arith, nat_tests)
          ]
    ])

pub returns-then-first-end : goal.returns-then-first-end
returns-then-first-end g c r follows =
    let whole : length (take (c.end_of-end.result - c.args.first) (drop c.args.first c.args.cells.now)) ≡ c.end_of-end.result - c.args.first = search (rules, places) in
    part_changed c.args.first c.end_of-end.result c.args.len c.loop-k.k r c.args.cells.now c.loop-k.cell-items
    c.if-first-end.true c.end_of-end.ensures (omega arith) (omega arith) (λ k h. c.loop-k.invariant r follows k (omega arith))

pub returns : goal.returns
returns g c r follows = changed_past c.args.first c.args.len r c.args.cells.now (omega arith)
