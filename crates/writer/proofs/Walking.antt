-- From sector to sector: what a put needs in each, whichever part of it stands already.
use Rattle.std.proofs.Common.{◌≡◌, ℕ, ◌+◌, ◌*◌, ◌/◌, ◌<◌, ◌≤◌, false, ◌⊎◌, List, length, get_or, sym, refl, ap, ◌∙◌, subst, inl, inr, add-mul, arith}
use Rattle.std.proofs.lemmas.Bool.{cases_lt, cases_eq, and_right}
use Rattle.cells.proofs.Spans.{any_none}
use Rattle.flash.specs.Meaning.{Meaning, Sound}
use Rattle.writer.specs.Needed.{placed, differs_at, is_touched, programs_for, erases_for}
use Rattle.writer.specs.declared.piece.Piece.{Piece}
use Rattle.writer.specs.Put.{holding, Made, is_locked}
use Rattle.writer.proofs.Parts.{Part, part_more}
use Rattle.writer.proofs.Placing.{Halfway, begun, length-begun, begun_in, begun_out, begun_none, begun_halfway, holding-more, holding-still}
use Rattle.writer.proofs.Needing.{Agree, differs_none, differs_same, programs_none, erases_none, programs_join, erases_join}
use Rattle.writer.proofs.Paging.{Few, few, made_programs, made_erases, made_ticks}

-- in its sector the piece is all that is put
pub piece_new : (at : ℕ) (bytes held : List ℕ) (pos : ℕ) (piece : Piece 4096) → Part 4096 at bytes held pos piece → Agree (piece.at / 4096 * 4096) 4096 (begun at bytes (pos + length piece.bytes.now) held) (placed at bytes held)
piece_new at bytes held pos piece part a low high =
    let len = length piece.bytes.now in
    let inside = part.inside in
    let there = part.there in
    let place = part.place in
    elim (cases_lt a at) [
      | inl before ↦ begun_out at bytes (pos + len) held a (inl before) ∙ sym (begun_out at bytes (length bytes) held a (inl before))
      | inr since ↦
          elim (cases_lt a (at + (pos + len))) [
            | inl within ↦ begun_in at bytes (pos + len) held a since within (omega arith) ∙ sym (begun_in at bytes (length bytes) held a since (omega arith) (omega arith))
            | inr behind ↦
                elim (cases_lt (pos + len) (length bytes)) [
                  | inl more ↦ let e = part.ends more in let f = piece.inside in let g = piece.some in absurd (omega arith)
                  | inr all ↦ begun_out at bytes (pos + len) held a (inr behind) ∙ sym (begun_out at bytes (length bytes) held a (inr (omega arith)))
                ]
          ]
    ]

-- and nothing of it stood there before
pub piece_old : (at : ℕ) (bytes held : List ℕ) (pos : ℕ) (piece : Piece 4096) → Part 4096 at bytes held pos piece → Agree (piece.at / 4096 * 4096) 4096 (begun at bytes pos held) held
piece_old at bytes held pos piece part a low high =
    let place = part.place in
    elim (cases_lt 0 pos) [
      | inl some ↦ let e = part.begins some in begun_out at bytes pos held a (inr (omega arith))
      | inr none ↦ begun_out at bytes pos held a (elim (cases_lt a at) [ inl before ↦ inl before | inr since ↦ inr (omega arith) ])
    ]

-- sectors before the put and behind it stay
pub untouched : (at : ℕ) (bytes held : List ℕ) (sector : ℕ) → (sector * 4096 + 4096 ≤ at) ⊎ (at + length bytes ≤ sector * 4096) → is_touched held (placed at bytes held) sector ≡ false
untouched at bytes held sector out =
    any_none (differs_at held (placed at bytes held)) (sector * 4096) 4096
    (λ a low high. differs_none _ _ (sym (begun_out at bytes (length bytes) held a (elim out [ inl h ↦ inl (omega arith) | inr h ↦ inr (omega arith) ]))))

-- whether the sector of a piece is touched goes by the piece
pub piece_touches : (at : ℕ) (bytes held : List ℕ) (pos : ℕ) (piece : Piece 4096) → Part 4096 at bytes held pos piece → is_touched (begun at bytes pos held) (begun at bytes (pos + length piece.bytes.now) held) (piece.at / 4096) ≡ is_touched held (placed at bytes held) (piece.at / 4096)
piece_touches at bytes held pos piece part =
    differs_same (begun at bytes pos held) (begun at bytes (pos + length piece.bytes.now) held) held (placed at bytes held) (piece.at / 4096 * 4096) 4096 (piece_old at bytes held pos piece part) (piece_new at bytes held pos piece part)

-- the same for the piece alone
pub piece_alone : (at : ℕ) (bytes held : List ℕ) (pos : ℕ) (piece : Piece 4096) → Part 4096 at bytes held pos piece → is_touched held (placed piece.at piece.bytes.now held) (piece.at / 4096) ≡ is_touched held (placed at bytes held) (piece.at / 4096)
piece_alone at bytes held pos piece part =
    let these = piece.bytes.now in
    let b = piece.at in
    let inside = part.inside in
    let there = part.there in
    let place = part.place in
    let half = begun at bytes pos held in
    let whole = length-begun at bytes pos held in
    differs_same held (placed b these held) held (placed at bytes held) (b / 4096 * 4096) 4096 (λ a low high. refl)
    (λ a low high.
    (elim (cases_lt a b) [
      | inl before ↦
          begun_out b these (length these) held a (inl before)
          ∙ sym (piece_old at bytes held pos piece part a low high)
          ∙ (begun_halfway b at bytes pos (length these) held (omega arith) (omega arith) (λ h. place)).below a before
      | inr since ↦
          (elim (cases_lt a (b + length these)) [
            | inl within ↦
                begun_in b these (length these) held a since within (omega arith)
                ∙ sym (begun_in b these (length these) half a since within (omega arith))
            | inr behind ↦
                begun_out b these (length these) held a (inr behind)
                ∙ sym (begun_out at bytes pos held a (inr (omega arith)))
                ∙ sym (begun_out b these (length these) half a (inr behind))
          ])
          ∙ ap (λ (xs : List ℕ). get_or xs a 0) (part_more 4096 at bytes held pos piece part)
    ])
    ∙ piece_new at bytes held pos piece part a low high)

-- the sectors before an address are not locked
abbrev pub FreeTo : ℕ → List ℕ → ℕ → Meaning → Type 0
FreeTo at bytes pos m = 0 < pos → (sector : ℕ) → sector * 4096 < at + pos → is_locked m (placed at bytes m.bytes) sector ≡ false

-- no more so up to the end of a piece whose sector is not
pub free_more : (at : ℕ) (bytes : List ℕ) (pos : ℕ) (m : Meaning) (piece : Piece 4096) → Part 4096 at bytes m.bytes pos piece → FreeTo at bytes pos m → is_locked m (placed at bytes m.bytes) (piece.at / 4096) ≡ false → (n : ℕ) → n ≡ pos + length piece.bytes.now → FreeTo at bytes n m
free_more at bytes pos m piece part free here n is some sector low =
    let place = part.place in
    let fits = piece.inside in
    elim (cases_eq sector (piece.at / 4096)) [
      | inl same ↦ ap (is_locked m (placed at bytes m.bytes)) same ∙ here
      | inr other ↦
          elim (cases_lt 0 pos) [
            | inl begun ↦ free begun sector (let b = part.begins begun in omega arith)
            | inr none ↦ and_right _ _ (untouched at bytes m.bytes sector (inl (omega arith)))
          ]
    ]

-- none of the sectors before that of a piece
pub free_before : (at : ℕ) (bytes : List ℕ) (pos : ℕ) (m : Meaning) (piece : Piece 4096) → Part 4096 at bytes m.bytes pos piece → FreeTo at bytes pos m → (sector : ℕ) → sector < piece.at / 4096 → is_locked m (placed at bytes m.bytes) sector ≡ false
free_before at bytes pos m piece part free sector low =
    let place = part.place in
    elim (cases_lt 0 pos) [
      | inl begun ↦ free begun sector (omega arith)
      | inr none ↦ and_right _ _ (untouched at bytes m.bytes sector (inl (omega arith)))
    ]

-- none at all
pub free_all : (at : ℕ) (bytes : List ℕ) (pos : ℕ) (m : Meaning) → pos ≡ length bytes → FreeTo at bytes pos m → (sector : ℕ) → is_locked m (placed at bytes m.bytes) sector ≡ false
free_all at bytes pos m all free sector =
    elim (cases_lt (sector * 4096) (at + pos)) [
      | inl low ↦
          elim (cases_lt 0 pos) [
            | inl begun ↦ free begun sector low
            | inr none ↦ and_right _ _ (empty none)
          ]
      | inr high ↦ and_right _ _ (untouched at bytes m.bytes sector (inr (omega arith)))
    ]
  where
    empty : pos ≤ 0 → is_touched m.bytes (placed at bytes m.bytes) sector ≡ false
    empty none =
        any_none (differs_at m.bytes (placed at bytes m.bytes)) (sector * 4096) 4096
        (λ a low high. differs_none _ _ (sym (begun_out at bytes (length bytes) m.bytes a (elim (cases_lt a at) [ inl before ↦ inl before | inr since ↦ inr (omega arith) ]))))

-- one sector after another
pub record SectorsMade (at : ℕ) (bytes : List ℕ) (pos : ℕ) (m now : Meaning) (programs erases ticks : ℕ) : Type 0 where
  pub holds : now ≡ holding (begun at bytes pos m.bytes) programs erases m
  pub programmed : programs ≡ programs_for m.bytes (begun at bytes pos m.bytes)
  pub erased : erases ≡ erases_for m.bytes (begun at bytes pos m.bytes)
  pub time : ticks ≡ programs * m.program_ticks + erases * m.erase_ticks

pub sectors_start : (at : ℕ) (bytes : List ℕ) (m : Meaning) → Sound m → m.left ≡ 0 → SectorsMade at bytes 0 m m 0 0 0
sectors_start at bytes m sound ready =
    let none = begun_none at bytes m.bytes in
    record {
      holds = holding-still m sound ready ∙ ap (λ (xs : List ℕ). holding xs 0 0 m) none;
      programmed = sym (ap (programs_for m.bytes) (sym none) ∙ programs_none m.bytes);
      erased = sym (ap (erases_for m.bytes) (sym none) ∙ erases_none m.bytes);
      time = omega arith;
    }

pub sectors_step : (at : ℕ) (bytes : List ℕ) (pos : ℕ) (m mid after : Meaning) (programs erases ticks p e t : ℕ) (piece : Piece 4096) → Part 4096 at bytes m.bytes pos piece → SectorsMade at bytes pos m mid programs erases ticks → Made (placed piece.at piece.bytes.now mid.bytes) mid after (p, e, t) → (n : ℕ) → n ≡ pos + length piece.bytes.now → SectorsMade at bytes n m after (programs + p) (erases + e) (ticks + t)
sectors_step at bytes pos m mid after programs erases ticks p e t piece part so_far made n on =
    let old = m.bytes in
    let half = begun at bytes pos old in
    let next = begun at bytes n old in
    let inside = part.inside in
    let there = part.there in
    let place = part.place in
    let here : Meaning = holding half programs erases m in
    let made-here = subst (λ (x : Meaning). Made (placed piece.at piece.bytes.now x.bytes) x after (p, e, t)) so_far.holds made in
    let made-next = subst (λ (xs : List ℕ). Made xs here after (p, e, t)) (part_more 4096 at bytes old pos piece part ∙ ap (λ (k : ℕ). begun at bytes k old) (sym on)) made-here in
    let time = made_ticks next here after p e t made-next in
    let b = piece.at / 4096 * 4096 in
    let half-way = begun_halfway b at bytes pos (length piece.bytes.now) old (omega arith) (omega arith) (λ h. let w = part.begins h in omega arith) in
    let halfway = subst (λ (k : ℕ). Halfway b old half (begun at bytes k old)) (sym on) half-way in
    let before-time = so_far.time in
    let times = add-mul programs p m.program_ticks in
    let times' = add-mul erases e m.erase_ticks in
    record {
      holds = made-next.holds ∙ holding-more m half next programs erases p e;
      programmed = ap (λ (n : ℕ). n + p) so_far.programmed ∙ ap (λ (n : ℕ). programs_for old half + n) (made_programs next here after p e t made-next) ∙ programs_join b old half next (omega arith) halfway;
      erased = ap (λ (n : ℕ). n + e) so_far.erased ∙ ap (λ (n : ℕ). erases_for old half + n) (made_erases next here after p e t made-next) ∙ erases_join b old half next (omega arith) halfway;
      time = omega arith;
    }

pub sectors_few : (at : ℕ) (bytes : List ℕ) (pos : ℕ) (m now : Meaning) (programs erases ticks : ℕ) → Sound m → SectorsMade at bytes pos m now programs erases ticks → Few programs erases ticks
sectors_few at bytes pos m now programs erases ticks sound so_far = few m (begun at bytes pos m.bytes) programs erases ticks sound so_far.programmed so_far.erased so_far.time
