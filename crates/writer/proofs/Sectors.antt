-- One sector: what it is to hold, and what it costs to erase and program it.
use Rattle.std.proofs.Common.{◌≡◌, ℕ, ◌+◌, ◌-◌, ◌*◌, ◌/◌, ◌%◌, ◌<◌, ◌≤◌, Bool, true, false, cond, not, eqb, ◌⊎◌, List, ◌++◌, length, get_or, take, drop, sym, refl, ap, ◌∙◌, subst, inl, inr, arith}
use Rattle.std.proofs.lemmas.List.{get_or_append_left, get_or-append_right}
use Rattle.std.proofs.lemmas.Bool.{cases_lt, cases_eq, cond-true}
use Rattle.cells.specs.Bits.{rises}
use Rattle.cells.specs.Bytes.{changed}
use Rattle.cells.specs.Changes.{erased}
use Rattle.cells.specs.Tests.{any_in, how_many}
use Rattle.cells.proofs.Counts.{count_one, count_same}
use Rattle.cells.proofs.Ranges.{length-changed, get_or-changed, changed_inside, changed_outside}
use Rattle.cells.proofs.Rising.{rises-blank, rises_same}
use Rattle.cells.proofs.Spans.{any_same, any_shifted, any_narrowed, none_at, none_inside}
use Rattle.flash.specs.Meaning.{Meaning, Sound}
use Rattle.writer.specs.Needed.{Falls, placed, differs_at, rises_at, written_at, is_touched, must_erase, must_program, programs_for, erases_for}
use Rattle.writer.specs.Pieces.{composed}
use Rattle.writer.specs.Put.{holding, Made}
use Rattle.writer.proofs.Placing.{begun_all, begun_in, begun_out, length-begun, length_part, read_from, holding-more, holding-still}
use Rattle.writer.proofs.Needing.{falls_kept, differs_none, erase_none, erases_none, program_none, programs_none, program_differing}
use Rattle.writer.proofs.Paging.{made_from, made_programs, made_ticks, placed_same}

-- what stands before the bytes, the bytes, and what stands behind them are what the sector is to hold
pub composed_holds : (at : ℕ) (bytes held work : List ℕ) → at % 4096 + length bytes ≤ 4096 → at / 4096 * 4096 + 4096 ≤ length held → work ≡ composed at bytes held → (k : ℕ) → k < 4096 → get_or work k 0 ≡ get_or (placed at bytes held) (at / 4096 * 4096 + k) 0
composed_holds at bytes held work fits there is k h =
    let start = at % 4096 in
    let base = at / 4096 * 4096 in
    let rest = 4096 - (start + length bytes) in
    let front = take start (drop (at - start) held) in
    let behind = take rest (drop (at + length bytes) held) in
    let n : length front ≡ start = length_part held (at - start) start (omega arith) in
    elim (cases_lt k start) [
      | inl low ↦
          let place : at - start + k ≡ base + k = omega arith in
          ap (λ (xs : List ℕ). get_or xs k 0) is
          ∙ get_or_append_left front (bytes ++ behind) 0 k (omega arith)
          ∙ read_from held front (at - start) start refl k low
          ∙ ap (λ (a : ℕ). get_or held a 0) place
          ∙ sym (begun_out at bytes (length bytes) held (base + k) (inl (omega arith)))
      | inr since ↦
          let i = k - start in
          elim (cases_lt i (length bytes)) [
            | inl inside ↦
                let place : base + k - at ≡ i = omega arith in
                ap (λ (xs : List ℕ). get_or xs k 0) is
                ∙ get_or-append_right front (bytes ++ behind) start k 0 n since
                ∙ get_or_append_left bytes behind 0 i inside
                ∙ sym (begun_in at bytes (length bytes) held (base + k) (omega arith) (omega arith) (omega arith) ∙ ap (λ (a : ℕ). get_or bytes a 0) place)
            | inr beyond ↦
                let place : at + length bytes + (i - length bytes) ≡ base + k = omega arith in
                ap (λ (xs : List ℕ). get_or xs k 0) is
                ∙ get_or-append_right front (bytes ++ behind) start k 0 n since
                ∙ get_or-append_right bytes behind (length bytes) i 0 refl beyond
                ∙ read_from held behind (at + length bytes) rest refl (i - length bytes) (omega arith)
                ∙ ap (λ (a : ℕ). get_or held a 0) place
                ∙ sym (begun_out at bytes (length bytes) held (base + k) (inr (omega arith)))
          ]
    ]

-- a sector that was erased
abbrev pub blanked : ℕ → List ℕ → List ℕ
blanked sector old = changed (sector * 4096) 4096 erased old

pub blanked_in : (sector : ℕ) (old : List ℕ) (a : ℕ) → sector * 4096 ≤ a → a < sector * 4096 + 4096 → a < length old → get_or (blanked sector old) a 0 ≡ 255
blanked_in sector old a low high there = get_or-changed (sector * 4096) 4096 erased old a there ∙ changed_inside (sector * 4096) 4096 erased old a low high

-- the new bytes are the old ones outside one sector
abbrev pub Elsewhere : ℕ → List ℕ → List ℕ → Type 0
Elsewhere sector old new = (a : ℕ) → (a < sector * 4096) ⊎ (sector * 4096 + 4096 ≤ a) → get_or old a 0 ≡ get_or new a 0

-- the bytes lie in the sector of their address
pub in_sector : (at : ℕ) (bytes held : List ℕ) → at % 4096 + length bytes ≤ 4096 → Elsewhere (at / 4096) held (placed at bytes held)
in_sector at bytes held fits a out = sym (begun_out at bytes (length bytes) held a (elim out [ inl h ↦ inl (omega arith) | inr h ↦ inr (omega arith) ]))

-- an erased sector that got its new bytes
pub rewritten : (sector : ℕ) (work old new : List ℕ) → length work ≡ 4096 → length new ≡ length old → ((k : ℕ) → k < 4096 → get_or work k 0 ≡ get_or new (sector * 4096 + k) 0) → Elsewhere sector old new → placed (sector * 4096) work (blanked sector old) ≡ new
rewritten sector work old new long same inside elsewhere =
    let l = length-changed (sector * 4096) 4096 erased old in
    sym
    (begun_all (sector * 4096) work (length work) (blanked sector old) new (same ∙ sym l)
    (λ a low high there. let back : sector * 4096 + (a - sector * 4096) ≡ a = omega arith in sym (inside (a - sector * 4096) (omega arith) ∙ ap (λ (i : ℕ). get_or new i 0) back))
    (λ a out.
    let far : (a < sector * 4096) ⊎ (sector * 4096 + 4096 ≤ a) = elim out [ inl h ↦ inl h | inr h ↦ inr (omega arith) ] in
    sym (elsewhere a far) ∙ sym (changed_outside (sector * 4096) 4096 erased old a far)))

-- so where it gets what a sector was composed to hold
pub whole_placed : (at : ℕ) (bytes held : List ℕ) (b : ℕ) (these : List ℕ) → at % 4096 + length bytes ≤ 4096 → at / 4096 * 4096 + 4096 ≤ length held → b ≡ at / 4096 * 4096 → these ≡ composed at bytes held → length these ≡ 4096 → placed b these (blanked (at / 4096) held) ≡ placed at bytes held
whole_placed at bytes held b these fits there place is long =
    ap (λ (a : ℕ). placed a these (blanked (at / 4096) held)) place
    ∙ rewritten (at / 4096) these held (placed at bytes held) long (length-begun at bytes (length bytes) held) (composed_holds at bytes held these fits there is) (in_sector at bytes held fits)

-- from an erased sector on nothing has to rise
pub blanked_falls : (sector : ℕ) (old new : List ℕ) → sector * 4096 + 4096 ≤ length old → Elsewhere sector old new → Falls (blanked sector old) new
blanked_falls sector old new there elsewhere a =
    elim (cases_lt a (sector * 4096)) [
      | inl before ↦ stays (inl before)
      | inr since ↦
          elim (cases_lt a (sector * 4096 + 4096)) [
            | inl inside ↦ ap (λ (x : ℕ). rises x (get_or new a 0)) (blanked_in sector old a since inside (omega arith)) ∙ rises-blank (get_or new a 0)
            | inr behind ↦ stays (inr behind)
          ]
    ]
  where
    stays : (a < sector * 4096) ⊎ (sector * 4096 + 4096 ≤ a) → rises_at (blanked sector old) new a ≡ false
    stays far = ap (λ (x : ℕ). rises x (get_or new a 0)) (changed_outside (sector * 4096) 4096 erased old a far ∙ elsewhere a far) ∙ rises_same (get_or new a 0)

-- an address of another sector
pub other_sector : (s k a : ℕ) → (k ≡ s → ⊥) → k * 4096 ≤ a → a < k * 4096 + 4096 → (a < s * 4096) ⊎ (s * 4096 + 4096 ≤ a)
other_sector s k a other low high = elim (cases_lt k s) [ inl less ↦ inl (omega arith) | inr more ↦ elim (cases_lt s k) [ inl greater ↦ inr (omega arith) | inr same ↦ absurd (other (omega arith)) ] ]

-- one sector that has to be erased is one erase
pub one_erase : (sector : ℕ) (old new : List ℕ) → sector * 4096 + 4096 ≤ length old → Elsewhere sector old new → must_erase old new sector ≡ true → erases_for old new ≡ 1
one_erase sector old new there elsewhere must =
    count_one (must_erase old new) (length old / 4096) sector (omega arith)
    (λ k h other. erase_none old new k (λ a low high. elsewhere a (other_sector sector k a other low high)))
    ∙ ap (λ (b : Bool). cond {A = ℕ} b 1 0) must

-- the programs after its erase are those that it needs
pub erased_programs : (sector : ℕ) (old new : List ℕ) → sector * 4096 + 4096 ≤ length old → Elsewhere sector old new → must_erase old new sector ≡ true → programs_for (blanked sector old) new ≡ programs_for old new
erased_programs sector old new there elsewhere must =
    let clean = blanked sector old in
    ap (λ (n : ℕ). how_many (must_program clean new) (n / 256)) (length-changed (sector * 4096) 4096 erased old)
    ∙ count_same (must_program clean new) (must_program old new) (length old / 256)
    (λ k h.
    elim (cases_eq (k / 16) sector) [
      | inl here ↦
          program_differing clean new k (falls_kept clean new (blanked_falls sector old new there elsewhere) (k / 16))
          ∙ any_same (differs_at clean new) (written_at new) (k * 256) 256
          (λ a low high. ap (λ (x : ℕ). not (eqb x (get_or new a 0))) (blanked_in sector old a (omega arith) (omega arith) (omega arith)))
          ∙ sym (cond-true (must_erase old new (k / 16)) _ _ (ap (must_erase old new) here ∙ must))
      | inr other ↦
          program_none clean new k
          (λ a low high. let far = other_sector sector (k / 16) a other low high in changed_outside (sector * 4096) 4096 erased old a far ∙ elsewhere a far)
          ∙ sym (program_none old new k (λ a low high. elsewhere a (other_sector sector (k / 16) a other low high)))
    ])

-- a sector erased and programmed
pub rewrite_made : (sector : ℕ) (new : List ℕ) (m erased-m after : Meaning) (p t : ℕ) → sector * 4096 + 4096 ≤ length m.bytes → Elsewhere sector m.bytes new → must_erase m.bytes new sector ≡ true → erased-m ≡ holding (blanked sector m.bytes) 0 1 m → Made new erased-m after (p, 0, t) → Made new m after (p, 1, m.erase_ticks + t)
rewrite_made sector new m erased-m after p t there elsewhere must is made =
    let clean : Meaning = holding (blanked sector m.bytes) 0 1 m in
    let made-here = subst (λ (x : Meaning). Made new x after (p, 0, t)) is made in
    let time = made_ticks new clean after p 0 t made-here in
    made_from new m after p 1 (m.erase_ticks + t)
    (made_programs new clean after p 0 t made-here ∙ erased_programs sector m.bytes new there elsewhere must)
    (sym (one_erase sector m.bytes new there elsewhere must))
    (omega arith)
    (made-here.holds ∙ holding-more m (blanked sector m.bytes) new 0 1 p 0 ∙ ap (λ (n : ℕ). holding new n 1 m) (omega arith))

-- what was read against the bytes to be put tells what the sector needs, by any test of an old and a new byte that
-- equal bytes do not pass
pub read_tells : (test : ℕ → ℕ → Bool) → ((x : ℕ) → test x x ≡ false) → (at : ℕ) (bytes held read : List ℕ) → read ≡ take (length bytes) (drop at held) → at % 4096 + length bytes ≤ 4096 → at + length bytes ≤ length held → any_in (λ k. test (get_or read k 0) (get_or bytes k 0)) 0 (length bytes) ≡ any_in (λ a. test (get_or held a 0) (get_or (placed at bytes held) a 0)) (at / 4096 * 4096) 4096
read_tells test same at bytes held read is fits there =
    let new = placed at bytes held in
    any_shifted (λ k. test (get_or read k 0) (get_or bytes k 0)) (λ a. test (get_or held a 0) (get_or new a 0)) at (length bytes)
    (λ k h.
    let back : at + k - at ≡ k = omega arith in
    ap (λ (x : ℕ). test x (get_or bytes k 0)) (read_from held read at (length bytes) is k h)
    ∙ ap (λ (y : ℕ). test (get_or held (at + k) 0) y)
    (sym (begun_in at bytes (length bytes) held (at + k) (omega arith) (omega arith) (omega arith) ∙ ap (λ (i : ℕ). get_or bytes i 0) back)))
    ∙ sym
    (any_narrowed (λ a. test (get_or held a 0) (get_or new a 0)) (at / 4096 * 4096) 4096 at (length bytes) (omega arith) (omega arith)
    (λ a low high out. ap (λ (y : ℕ). test (get_or held a 0) y) (begun_out at bytes (length bytes) held a out) ∙ same (get_or held a 0)))

pub read_rises : (at : ℕ) (bytes held read : List ℕ) → read ≡ take (length bytes) (drop at held) → at % 4096 + length bytes ≤ 4096 → at + length bytes ≤ length held → any_in (rises_at read bytes) 0 (length bytes) ≡ must_erase held (placed at bytes held) (at / 4096)
read_rises = read_tells rises rises_same

pub read_differs : (at : ℕ) (bytes held read : List ℕ) → read ≡ take (length bytes) (drop at held) → at % 4096 + length bytes ≤ 4096 → at + length bytes ≤ length held → any_in (differs_at read bytes) 0 (length bytes) ≡ is_touched held (placed at bytes held) (at / 4096)
read_differs = read_tells (λ x y. not (eqb x y)) (λ x. differs_none x x refl)

-- a sector that need not be erased is the only one that could have had to
pub kept_falls : (sector : ℕ) (old new : List ℕ) → Elsewhere sector old new → must_erase old new sector ≡ false → Falls old new
kept_falls sector old new elsewhere kept a =
    elim (cases_lt a (sector * 4096)) [
      | inl before ↦ stays (inl before)
      | inr since ↦
          elim (cases_lt a (sector * 4096 + 4096)) [
            | inl inside ↦ none_at (rises_at old new) (sector * 4096) 4096 a kept since inside
            | inr behind ↦ stays (inr behind)
          ]
    ]
  where
    stays : (a < sector * 4096) ⊎ (sector * 4096 + 4096 ≤ a) → rises_at old new a ≡ false
    stays far = ap (λ (x : ℕ). rises x (get_or new a 0)) (elsewhere a far) ∙ rises_same (get_or new a 0)

-- a put in a sector that it does not touch
pub made_nothing : (at : ℕ) (bytes : List ℕ) (m : Meaning) → Sound m → m.left ≡ 0 → at % 4096 + length bytes ≤ 4096 → is_touched m.bytes (placed at bytes m.bytes) (at / 4096) ≡ false → Made (placed at bytes m.bytes) m m (0, 0, 0)
made_nothing at bytes m sound ready fits none =
    let old = m.bytes in
    let same = placed_same at bytes old (none_inside (differs_at old (placed at bytes old)) (at / 4096 * 4096) 4096 at (length bytes) none (omega arith) (omega arith)) in
    subst (λ (xs : List ℕ). Made xs m m (0, 0, 0)) same
    (made_from old m m 0 0 0 (sym (programs_none old)) (sym (erases_none old)) (omega arith) (holding-still m sound ready))
