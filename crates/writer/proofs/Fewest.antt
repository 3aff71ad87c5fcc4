-- No list of page programs and sector erases has fewer erases than there are sectors that have to be erased.
use Rattle.std.proofs.Common.{◌≡◌, ℕ, ◌+◌, ◌-◌, ◌*◌, ◌/◌, ◌<◌, ◌≤◌, true, ◌⊎◌, List, [], ◌∷◌, length, get_or, ap, ◌∙◌, subst, inl, inr, arith}
use Rattle.std.proofs.lemmas.Bool.{cases_lt}
use Rattle.cells.specs.Bits.{rises}
use Rattle.cells.specs.Changes.{anded, erased}
use Rattle.cells.specs.Tests.{how_many}
use Rattle.cells.proofs.Counts.{count_none, count_more, count_but_one}
use Rattle.cells.proofs.Ranges.{get_or-changed, changed_inside, changed_outside}
use Rattle.cells.proofs.Rising.{rises_and}
use Rattle.cells.proofs.Spans.{any_gives, any_from}
use Rattle.writer.specs.Needed.{rises_at, must_erase, erases_for}
use Rattle.writer.specs.Operations.{Operation, page_program, sector_erase, Programs, Erases, Turns, erases_in, Fewest}
use Rattle.writer.proofs.Needing.{erase_none}
use Rattle.writer.proofs.Sectors.{other_sector}

-- a sector that has to be erased still has to, if each bit that had to rise still has to
still_erase : (old mid new : List ℕ) (sector : ℕ) → ((a : ℕ) → sector * 4096 ≤ a → a < sector * 4096 + 4096 → rises_at old new a ≡ true → rises_at mid new a ≡ true) → must_erase old new sector ≡ true → must_erase mid new sector ≡ true
still_erase old mid new sector each must =
    let h = any_gives (rises_at old new) (sector * 4096) 4096 must in
    any_from (rises_at mid new) (sector * 4096) 4096 (record { at = h.at; from = h.from; below = h.below; holds = each h.at h.from h.below h.holds })

-- a page program makes no bit rise
program_leaves : (at : ℕ) (bytes old mid new : List ℕ) → Programs at bytes old mid → (a : ℕ) → rises_at old new a ≡ true → rises_at mid new a ≡ true
program_leaves at bytes old mid new done a must =
    let inside = done.inside in
    let is = ap (λ (xs : List ℕ). get_or xs a 0) done.becomes in
    elim (cases_lt a at) [
      | inl before ↦ stays (inl before)
      | inr since ↦
          elim (cases_lt a (at + length bytes)) [
            | inl within ↦
                ap (λ (x : ℕ). rises x (get_or new a 0))
                (is ∙ get_or-changed at (length bytes) (anded at bytes) old a (omega arith) ∙ changed_inside at (length bytes) (anded at bytes) old a since within)
                ∙ rises_and (get_or old a 0) (get_or bytes (a - at) 0) (get_or new a 0) must
            | inr behind ↦ stays (inr behind)
          ]
    ]
  where
    stays : (a < at) ⊎ (at + length bytes ≤ a) → rises_at mid new a ≡ true
    stays out = ap (λ (x : ℕ). rises x (get_or new a 0)) (ap (λ (xs : List ℕ). get_or xs a 0) done.becomes ∙ changed_outside at (length bytes) (anded at bytes) old a out) ∙ must

-- a sector erase helps one sector only
erase_leaves : (sector : ℕ) (old mid new : List ℕ) → Erases sector old mid → (k : ℕ) → (k ≡ sector → ⊥) → (a : ℕ) → k * 4096 ≤ a → a < k * 4096 + 4096 → rises_at old new a ≡ true → rises_at mid new a ≡ true
erase_leaves sector old mid new done k other a low high must =
    ap (λ (x : ℕ). rises x (get_or new a 0))
    (ap (λ (xs : List ℕ). get_or xs a 0) done.becomes ∙ changed_outside (sector * 4096) 4096 erased old a (other_sector sector k a other low high))
    ∙ must

fewest_of : (n : ℕ) (old new : List ℕ) (operations : List Operation) → Turns operations old new → how_many (must_erase old new) n ≤ erases_in operations
fewest_of n old new [] same = let none = count_none (must_erase old new) n (λ k h. erase_none old new k (λ a low high. ap (λ (xs : List ℕ). get_or xs a 0) same)) in omega arith
fewest_of n old new (page_program at bytes ∷ rest) (mid, done, turns) =
    omega (arith, fewest_of n mid new rest turns, count_more (must_erase old new) (must_erase mid new) n (λ k. still_erase old mid new k (λ a low high. program_leaves at bytes old mid new done a)))
fewest_of n old new (sector_erase sector ∷ rest) (mid, done, turns) =
    omega (arith, fewest_of n mid new rest turns, count_but_one (must_erase old new) (must_erase mid new) n sector (λ k other. still_erase old mid new k (erase_leaves sector old mid new done k other)))

-- what a put answers
pub fewest : (old new after : List ℕ) (erases : ℕ) → erases ≡ erases_for old new → after ≡ new → Fewest old after erases
fewest old new after erases count is operations turns =
    let least = fewest_of (length old / 4096) old new operations (subst (λ (xs : List ℕ). Turns operations old xs) is turns) in
    omega arith
