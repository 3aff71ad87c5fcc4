-- What has to be erased and programmed, sector by sector and page by page.
use Rattle.std.proofs.Common.{◌≡◌, ℕ, ◌+◌, ◌*◌, ◌/◌, ◌%◌, ◌<◌, ◌≤◌, Bool, false, cond, not, eqb, ◌⊎◌, List, length, get_or, sym, refl, ap, ◌∙◌, inl, inr, arith}
use Rattle.std.proofs.lemmas.Bool.{cases_lt, cond-false, eq-eqb, not_from_true}
use Rattle.cells.specs.Bits.{rises}
use Rattle.cells.specs.Tests.{any_in, how_many}
use Rattle.cells.proofs.Counts.{count_none, count_one, count_most, count_split}
use Rattle.cells.proofs.Rising.{rises_same}
use Rattle.cells.proofs.Spans.{any_none, any_same, any_narrowed}
use Rattle.writer.proofs.Placing.{Halfway}
use Rattle.writer.specs.Needed.{Falls, differs_at, rises_at, written_at, must_erase, must_program, programs_for, erases_for}

-- two lists agree at the n addresses from first on
abbrev pub Agree : ℕ → ℕ → List ℕ → List ℕ → Type 0
Agree first n xs ys = (a : ℕ) → first ≤ a → a < first + n → get_or xs a 0 ≡ get_or ys a 0

pub differs_none : (x y : ℕ) → x ≡ y → not (eqb x y) ≡ false
differs_none x y e = not_from_true (eqb x y) (eq-eqb x y e)

rises_none : (x y : ℕ) → x ≡ y → rises x y ≡ false
rises_none x y e = ap (λ (z : ℕ). rises z y) e ∙ rises_same y

-- where nothing changes nothing is erased or programmed
pub erase_none : (old new : List ℕ) (sector : ℕ) → Agree (sector * 4096) 4096 old new → must_erase old new sector ≡ false
erase_none old new sector same = any_none (rises_at old new) (sector * 4096) 4096 (λ a low high. rises_none _ _ (same a low high))

-- a page that is not in a sector to be erased
pub program_differing : (old new : List ℕ) (page : ℕ) → must_erase old new (page / 16) ≡ false → must_program old new page ≡ any_in (differs_at old new) (page * 256) 256
program_differing old new page kept = cond-false (must_erase old new (page / 16)) _ _ kept

pub program_none : (old new : List ℕ) (page : ℕ) → Agree (page / 16 * 4096) 4096 old new → must_program old new page ≡ false
program_none old new page same =
    program_differing old new page (erase_none old new (page / 16) same)
    ∙ any_none (differs_at old new) (page * 256) 256 (λ a low high. differs_none _ _ (same a (omega arith) (omega arith)))

-- bytes that stay cost nothing
pub programs_none : (old : List ℕ) → programs_for old old ≡ 0
programs_none old = count_none (must_program old old) (length old / 256) (λ k h. program_none old old k (λ a l u. refl))

pub erases_none : (old : List ℕ) → erases_for old old ≡ 0
erases_none old = count_none (must_erase old old) (length old / 4096) (λ k h. erase_none old old k (λ a l u. refl))

-- at most every page, and every sector
pub programs_most : (old new : List ℕ) (n : ℕ) → n ≡ programs_for old new → n ≤ length old / 256
programs_most old new n e = let h = count_most (must_program old new) (length old / 256) in omega arith

pub erases_most : (old new : List ℕ) (n : ℕ) → n ≡ erases_for old new → n ≤ length old / 4096
erases_most old new n e = let h = count_most (must_erase old new) (length old / 4096) in omega arith

-- what has to be done in a sector goes by its bytes alone
pub erase_same : (old new old' new' : List ℕ) (sector : ℕ) → Agree (sector * 4096) 4096 old old' → Agree (sector * 4096) 4096 new new' → must_erase old new sector ≡ must_erase old' new' sector
erase_same old new old' new' sector before after =
    any_same (rises_at old new) (rises_at old' new') (sector * 4096) 4096
    (λ a low high. ap (λ (x : ℕ). rises x (get_or new a 0)) (before a low high) ∙ ap (λ (y : ℕ). rises (get_or old' a 0) y) (after a low high))

pub differs_same : (old new old' new' : List ℕ) (first n : ℕ) → Agree first n old old' → Agree first n new new' → any_in (differs_at old new) first n ≡ any_in (differs_at old' new') first n
differs_same old new old' new' first n before after =
    any_same (differs_at old new) (differs_at old' new') first n
    (λ a low high. ap (λ (x : ℕ). not (eqb x (get_or new a 0))) (before a low high) ∙ ap (λ (y : ℕ). not (eqb (get_or old' a 0) y)) (after a low high))

narrower : (page : ℕ) (xs ys : List ℕ) → Agree (page / 16 * 4096) 4096 xs ys → Agree (page * 256) 256 xs ys
narrower page xs ys same a low high = same a (omega arith) (omega arith)

pub program_same : (old new old' new' : List ℕ) (page : ℕ) → Agree (page / 16 * 4096) 4096 old old' → Agree (page / 16 * 4096) 4096 new new' → must_program old new page ≡ must_program old' new' page
program_same old new old' new' page before after =
    let written : any_in (written_at new) (page * 256) 256 ≡ any_in (written_at new') (page * 256) 256 =
    any_same (written_at new) (written_at new') (page * 256) 256 (λ a low high. ap (λ (y : ℕ). not (eqb 255 y)) (narrower page new new' after a low high))
    in
    let differing = differs_same old new old' new' (page * 256) 256 (narrower page old old' before) (narrower page new new' after) in
    ap (λ (b : Bool). cond b (any_in (written_at new) (page * 256) 256) (any_in (differs_at old new) (page * 256) 256)) (erase_same old new old' new' (page / 16) before after)
    ∙ ap (λ (b : Bool). cond (must_erase old' new' (page / 16)) b (any_in (differs_at old new) (page * 256) 256)) written
    ∙ ap (λ (b : Bool). cond (must_erase old' new' (page / 16)) (any_in (written_at new') (page * 256) 256) b) differing

-- one sector after another: what it costs adds up
pub erases_join : (b : ℕ) (old mid new : List ℕ) → b % 4096 ≡ 0 → Halfway b old mid new → erases_for old mid + erases_for mid new ≡ erases_for old new
erases_join b old mid new whole half =
    ap (λ (n : ℕ). erases_for old mid + how_many (must_erase mid new) (n / 4096)) half.long
    ∙ count_split (must_erase old mid) (must_erase mid new) (must_erase old new) (length old / 4096)
    (λ k h.
    elim (cases_lt (k * 4096) b) [
      | inl below ↦
          inl
          (erase_same old mid old new k (λ a l u. refl) (λ a l u. half.below a (omega arith)), erase_none mid new k (λ a l u. half.below a (omega arith)))
      | inr above ↦
          inr
          (erase_none old mid k (λ a l u. sym (half.above a (omega arith))), erase_same mid new old new k (λ a l u. half.above a (omega arith)) (λ a l u. refl))
    ])

pub programs_join : (b : ℕ) (old mid new : List ℕ) → b % 4096 ≡ 0 → Halfway b old mid new → programs_for old mid + programs_for mid new ≡ programs_for old new
programs_join b old mid new whole half =
    ap (λ (n : ℕ). programs_for old mid + how_many (must_program mid new) (n / 256)) half.long
    ∙ count_split (must_program old mid) (must_program mid new) (must_program old new) (length old / 256)
    (λ k h.
    elim (cases_lt (k / 16 * 4096) b) [
      | inl below ↦
          inl
          (program_same old mid old new k (λ a l u. refl) (λ a l u. half.below a (omega arith)), program_none mid new k (λ a l u. half.below a (omega arith)))
      | inr above ↦
          inr
          (program_none old mid k (λ a l u. sym (half.above a (omega arith))), program_same mid new old new k (λ a l u. half.above a (omega arith)) (λ a l u. refl))
    ])

pub falls_kept : (old new : List ℕ) → Falls old new → (sector : ℕ) → must_erase old new sector ≡ false
falls_kept old new falls sector = any_none (rises_at old new) (sector * 4096) 4096 (λ a low high. falls a)

pub falls_erases : (old new : List ℕ) → Falls old new → erases_for old new ≡ 0
falls_erases old new falls = count_none (must_erase old new) (length old / 4096) (λ k h. falls_kept old new falls k)

-- halfway none has to either
pub falls_first : (b : ℕ) (old mid new : List ℕ) → Halfway b old mid new → Falls old new → Falls old mid
falls_first b old mid new half falls a =
    elim (cases_lt a b) [
      | inl below ↦ ap (λ (y : ℕ). rises (get_or old a 0) y) (half.below a below) ∙ falls a
      | inr above ↦ rises_none _ _ (sym (half.above a above))
    ]

pub falls_then : (b : ℕ) (old mid new : List ℕ) → Halfway b old mid new → Falls old new → Falls mid new
falls_then b old mid new half falls a =
    elim (cases_lt a b) [
      | inl below ↦ rises_none _ _ (half.below a below)
      | inr above ↦ ap (λ (x : ℕ). rises x (get_or new a 0)) (half.above a above) ∙ falls a
    ]

-- one page after another, without an erase: the programs add up
pub pages_join : (b : ℕ) (old mid new : List ℕ) → b % 256 ≡ 0 → Halfway b old mid new → Falls old new → programs_for old mid + programs_for mid new ≡ programs_for old new
pages_join b old mid new whole half falls =
    let first = λ (k : ℕ). program_differing old mid k (falls_kept old mid (falls_first b old mid new half falls) (k / 16)) in
    let then = λ (k : ℕ). program_differing mid new k (falls_kept mid new (falls_then b old mid new half falls) (k / 16)) in
    let all = λ (k : ℕ). program_differing old new k (falls_kept old new falls (k / 16)) in
    ap (λ (n : ℕ). programs_for old mid + how_many (must_program mid new) (n / 256)) half.long
    ∙ count_split (must_program old mid) (must_program mid new) (must_program old new) (length old / 256)
    (λ k h.
    elim (cases_lt (k * 256) b) [
      | inl below ↦
          inl (
            first k ∙ differs_same old mid old new (k * 256) 256 (λ a l u. refl) (λ a l u. half.below a (omega arith)) ∙ sym (all k),
            then k ∙ any_none (differs_at mid new) (k * 256) 256 (λ a l u. differs_none _ _ (half.below a (omega arith))),
          )
      | inr above ↦
          inr (
            first k ∙ any_none (differs_at old mid) (k * 256) 256 (λ a l u. differs_none _ _ (sym (half.above a (omega arith)))),
            then k ∙ differs_same mid new old new (k * 256) 256 (λ a l u. half.above a (omega arith)) (λ a l u. refl) ∙ sym (all k),
          )
    ])

-- an address in another page, not before the range, is behind it
apart : (at n a k : ℕ) → (k ≡ at / 256 → ⊥) → k * 256 ≤ a → a < k * 256 + 256 → at % 256 + n ≤ 256 → at ≤ a → at + n ≤ a
apart at n a k other l u in_page since = elim (cases_lt k (at / 256)) [ inl low ↦ absurd (omega arith) | inr high ↦ elim (cases_lt (at / 256) k) [ inl more ↦ omega arith | inr less ↦ absurd (other (omega arith)) ] ]

-- a change inside one page costs one program, if it is one
pub page_once : (at n : ℕ) (old new : List ℕ) → 1 ≤ n → at % 256 + n ≤ 256 → at + n ≤ length old → length old % 4096 ≡ 0 → Falls old new → ((a : ℕ) → (a < at) ⊎ (at + n ≤ a) → get_or old a 0 ≡ get_or new a 0) → programs_for old new ≡ cond (any_in (differs_at old new) at n) 1 0
page_once at n old new some in_page inside whole falls outside =
    let all = λ (k : ℕ). program_differing old new k (falls_kept old new falls (k / 16)) in
    count_one (must_program old new) (length old / 256) (at / 256) (omega arith)
    (λ k h other.
    all k
    ∙ any_none (differs_at old new) (k * 256) 256
    (λ a l u. differs_none _ _ (outside a (elim (cases_lt a at) [ inl before ↦ inl before | inr since ↦ inr (apart at n a k other l u in_page since) ]))))
    ∙ ap (λ (b : Bool). cond {A = ℕ} b 1 0)
    (all (at / 256)
    ∙ any_narrowed (differs_at old new) (at / 256 * 256) 256 at n (omega arith) (omega arith) (λ a l u out. differs_none _ _ (outside a out)))
