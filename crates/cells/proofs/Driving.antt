-- The answer buffer of a read: FF first, then the cells.
use Rattle.std.proofs.Common.{◌≡◌, ℕ, ◌+◌, ◌-◌, ◌<◌, ◌≤◌, min, ltb, ◌⊎◌, List, length, get_or, sym, ap, ◌∙◌, inl, inr, arith, ◌%◌}
use borrow.Rule.Slice.PartMut.{put_mid}
use Rattle.std.proofs.Math.Nat.{mod-add-mod}
use Rattle.std.proofs.lemmas.Bool.{cases_lt, cond-true, cond-false, or_left, or_right, or_from, lt-ltb, le-ltb, eq-eqb, ne_eqb}
use Rattle.std.proofs.lemmas.Bool.Decides.{nat_tests}
use Rattle.cells.specs.Bytes.{counted, changed_at, wrapped}
use Rattle.cells.specs.Driven.{driven, silent, read_out}
use Rattle.cells.proofs.Ranges.{length-counted, get_or-counted, length-changed, get_or-changed, changed_all, changed_inside}
use Rattle.cells.proofs.Stretches.{before_stretch, inside_stretch, after_stretch, length_stretch}

-- what a read drives at one place: FF before skip or without cells, then the cell
read_silent : (cells : List ℕ) (at skip i : ℕ) → (i < skip) ⊎ (length cells ≡ 0) → read_out cells at skip i ≡ 255
read_silent cells at skip i (inl h) = cond-true _ _ _ (or_left _ _ (lt-ltb i skip h))
read_silent cells at skip i (inr h) = cond-true _ _ _ (or_right (ltb i skip) _ (eq-eqb (length cells) 0 h))

read_cell : (cells : List ℕ) (at skip i : ℕ) → skip ≤ i → 0 < length cells → read_out cells at skip i ≡ wrapped cells (at + (i - skip))
read_cell cells at skip i h some = cond-false _ _ _ (or_from (ltb i skip) _ (le-ltb i skip h) (ne_eqb (length cells) 0 (λ e. omega arith)))

-- two rules that agree at a place drive the same there
same_at : (f g : ℕ → ℕ) (n : ℕ) (old : List ℕ) (k : ℕ) → (k < n → f k ≡ g k) → changed_at 0 n (λ i _. f i) old k ≡ changed_at 0 n (λ i _. g i) old k
same_at f g n old k same =
    elim (cases_lt k n) [
      | inl h ↦ changed_inside 0 n (λ i _. f i) old k (omega arith) (omega arith) ∙ same h ∙ sym (changed_inside 0 n (λ i _. g i) old k (omega arith) (omega arith))
      | inr h ↦ grind (arith, nat_tests)
    ]

-- the frame ends before any cell is driven, or there is no cell
pub nothing_read : (old cells : List ℕ) (n at skip : ℕ) → (min n (length old) ≤ skip) ⊎ (length cells ≡ 0) → driven silent n old ≡ driven (read_out cells at skip) n old
nothing_read old cells n at skip why =
    changed_all 0 n (λ i _. read_out cells at skip i) old (driven silent n old) (length-changed 0 n (λ i _. silent i) old)
    (λ k h.
    get_or-changed 0 n (λ i _. silent i) old k h
    ∙ same_at silent (read_out cells at skip) n old k
    (λ lt. sym (read_silent cells at skip k (elim why [ inl e ↦ inl (omega arith) | inr e ↦ inr e ]))))

-- the cells copied behind skip bytes of FF
pub cells_read : (old cells copied : List ℕ) (n at skip end : ℕ) → end ≡ min n (length old) → skip < end → 0 < length cells → copied ≡ counted (λ k. wrapped cells (at % length cells + k)) (end - skip) → put_mid skip (end - skip) (driven silent n old) copied ≡ driven (read_out cells at skip) n old
cells_read old cells copied n at skip end ends begins some is =
    let blank = driven silent n old in
    let l = length-changed 0 n (λ i _. silent i) old in
    let m : length copied ≡ end - skip = ap length is ∙ length-counted _ (end - skip) in
    changed_all 0 n (λ i _. read_out cells at skip i) old (put_mid skip (end - skip) blank copied)
    (length_stretch skip (end - skip) blank copied (omega arith) m ∙ l)
    (λ k h.
    let shown = get_or-changed 0 n (λ i _. silent i) old k h in
    elim (cases_lt k skip) [
      | inl lt ↦
          before_stretch skip (end - skip) blank copied k (omega arith) m lt ∙ shown
          ∙ same_at silent (read_out cells at skip) n old k (λ _. sym (read_silent cells at skip k (inl lt)))
      | inr ge ↦
          elim (cases_lt k end) [
            | inl lt ↦
                inside_stretch skip (end - skip) blank copied k (omega arith) m ge (omega arith)
                ∙ ap (λ (zs : List ℕ). get_or zs (k - skip) 0) is
                ∙ get_or-counted (λ j. wrapped cells (at % length cells + j)) (end - skip) (k - skip) (omega arith)
                ∙ ap (λ (a : ℕ). get_or cells a 0) (mod-add-mod at (length cells) (k - skip))
                ∙ sym (read_cell cells at skip k ge some)
                ∙ sym (changed_inside 0 n (λ i _. read_out cells at skip i) old k (omega arith) (omega arith))
            | inr past ↦
                after_stretch skip (end - skip) blank copied k (omega arith) m (omega arith) ∙ shown
                ∙ same_at silent (read_out cells at skip) n old k (λ lt. absurd (omega arith))
          ]
    ])
