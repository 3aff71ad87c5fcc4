-- A page program of bytes that stay in their page is an AND of those bytes at their place.
use Rattle.std.proofs.Common.{◌≡◌, ℕ, zero, suc, ◌+◌, ◌-◌, ◌%◌, ◌<◌, ◌≤◌, true, false, cond, eqb, ◌⊎◌, List, [], ◌∷◌, length, get_or, sym, refl, ap, ◌∙◌, inl, inr, add-zero, arith}
use lib.Bits.{bit_and}
use Rattle.std.proofs.lemmas.Bool.{cases_lt, cond-true, cond-false, eq-eqb, ne_eqb}
use Rattle.std.proofs.lemmas.Bool.Decides.{nat_tests}
use Rattle.cells.specs.Bytes.{changed}
use Rattle.cells.specs.Changes.{programmed, anded}
use Rattle.cells.specs.Latch.{latch_byte, latched}
use Rattle.cells.proofs.Rising.{and_full}
use Rattle.cells.proofs.Ranges.{get_or-counted, length-changed, get_or-changed, changed_all, changed_inside}

-- an offset that no data byte goes to keeps what it had
latch_other : (at : ℕ) (new : List ℕ) (o before : ℕ) → ((k : ℕ) → k < length new → (at + k) % 256 ≡ o → ⊥) → latch_byte at new o before ≡ before
latch_other at [] o before away = refl
latch_other at (b ∷ new) o before away =
    let here : eqb (at % 256) o ≡ false = ne_eqb (at % 256) o (λ e. away 0 (omega arith) (ap (λ (k : ℕ). k % 256) (add-zero at) ∙ e)) in
    latch_other (at + 1) new o (cond (eqb (at % 256) o) b before)
    (λ k h e. away (suc k) (omega arith) (let s : at + suc k ≡ at + 1 + k = omega arith in ap (λ (m : ℕ). m % 256) s ∙ e))
    ∙ cond-false (eqb (at % 256) o) b before here

-- an offset that only data byte j goes to gets that byte
latch_hit : (at : ℕ) (new : List ℕ) (o before j : ℕ) → j < length new → (at + j) % 256 ≡ o → ((k : ℕ) → j < k → k < length new → (at + k) % 256 ≡ o → ⊥) → latch_byte at new o before ≡ get_or new j 0
latch_hit at [] o before j h e away = absurd (omega arith)
latch_hit at (b ∷ new) o before zero h e away =
    let here : eqb (at % 256) o ≡ true = eq-eqb (at % 256) o (ap (λ (k : ℕ). k % 256) (sym (add-zero at)) ∙ e) in
    latch_other (at + 1) new o (cond (eqb (at % 256) o) b before)
    (λ k l f. away (suc k) (omega arith) (omega arith) (let s : at + suc k ≡ at + 1 + k = omega arith in ap (λ (m : ℕ). m % 256) s ∙ f))
    ∙ cond-true (eqb (at % 256) o) b before here
latch_hit at (b ∷ new) o before (suc j) h e away =
    latch_hit (at + 1) new o (cond (eqb (at % 256) o) b before) j (omega arith)
    (let s : at + 1 + j ≡ at + suc j = omega arith in ap (λ (m : ℕ). m % 256) s ∙ e)
    (λ k l g f. away (suc k) (omega arith) (omega arith) (let s : at + suc k ≡ at + 1 + k = omega arith in ap (λ (m : ℕ). m % 256) s ∙ f))

-- the latch byte of an address in the page
latch_inside : (at : ℕ) (new : List ℕ) (a : ℕ) → at % 256 + length new ≤ 256 → at ≤ a → a < at + length new → get_or (latched at new) (a % 256) 0 ≡ get_or new (a - at) 0
unfolding latched
latch_inside at new a fits low high =
    get_or-counted (λ o. latch_byte at new o 255) 256 (a % 256) (omega arith)
    ∙ latch_hit at new (a % 256) 255 (a - at) (omega arith) (let s : at + (a - at) ≡ a = omega arith in ap (λ (m : ℕ). m % 256) s) (λ k l h e. omega arith)

latch_outside : (at : ℕ) (new : List ℕ) (a : ℕ) → at % 256 + length new ≤ 256 → at - at % 256 ≤ a → a < at - at % 256 + 256 → (a < at) ⊎ (at + length new ≤ a) → get_or (latched at new) (a % 256) 0 ≡ 255
unfolding latched
latch_outside at new a fits low high (inl h) =
    get_or-counted (λ o. latch_byte at new o 255) 256 (a % 256) (omega arith) ∙ latch_other at new (a % 256) 255 (λ k l e. omega arith)
latch_outside at new a fits low high (inr h) =
    get_or-counted (λ o. latch_byte at new o 255) 256 (a % 256) (omega arith) ∙ latch_other at new (a % 256) 255 (λ k l e. omega arith)

pub page_anded : (at : ℕ) (new xs : List ℕ) → at % 256 + length new ≤ 256 → ((i : ℕ) → get_or xs i 0 < 256) → changed (at - at % 256) 256 (programmed (latched at new)) xs ≡ changed at (length new) (anded at new) xs
page_anded at new xs fits bytes =
    let page = at - at % 256 in
    let g = programmed (latched at new) in
    changed_all at (length new) (anded at new) xs (changed page 256 g xs) (length-changed page 256 g xs)
    (λ a h.
    get_or-changed page 256 g xs a h
    ∙ elim (cases_lt a at) [
      | inl before ↦
          elim (cases_lt a page) [
            | inl out ↦ grind (arith, nat_tests)
            | inr in-page ↦
                changed_inside page 256 g xs a in-page (omega arith)
                ∙ ap (λ (l : ℕ). bit_and (get_or xs a 0) l) (latch_outside at new a fits in-page (omega arith) (inl before))
                ∙ and_full (get_or xs a 0) (bytes a)
                ∙ grind (arith, nat_tests)
          ]
      | inr from ↦
          elim (cases_lt a (at + length new)) [
            | inl inside ↦
                changed_inside page 256 g xs a (omega arith) (omega arith)
                ∙ ap (λ (l : ℕ). bit_and (get_or xs a 0) l) (latch_inside at new a fits from inside)
                ∙ sym (changed_inside at (length new) (anded at new) xs a from inside)
            | inr behind ↦
                elim (cases_lt a (page + 256)) [
                  | inl in-page ↦
                      changed_inside page 256 g xs a (omega arith) in-page
                      ∙ ap (λ (l : ℕ). bit_and (get_or xs a 0) l) (latch_outside at new a fits (omega arith) in-page (inr behind))
                      ∙ and_full (get_or xs a 0) (bytes a)
                      ∙ grind (arith, nat_tests)
                  | inr out ↦ grind (arith, nat_tests)
                ]
          ]
    ])
