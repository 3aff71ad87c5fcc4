-- A part of one page is programmed.
use Rattle.std.proofs.Common.{Bool, cond, ◌≡◌, ℕ, ◌+◌, ◌-◌, ◌*◌, ◌/◌, ◌<◌, ◌≤◌, false, not, eqb, List, length, get_or, sym, refl, ap, ◌∙◌, subst, inr, add-mul, arith}
use lib.Bits.{bit_and}
use Rattle.std.proofs.lemmas.Nat.{mul-le}
use Rattle.std.proofs.lemmas.Bool.{eqb-true, not-false}
use Rattle.cells.specs.Bytes.{changed}
use Rattle.cells.specs.Changes.{anded}
use Rattle.cells.specs.Tests.{any_in}
use Rattle.cells.proofs.Ranges.{length-changed, get_or-changed, changed_inside, changed_outside}
use Rattle.cells.proofs.Rising.{and_reaches}
use Rattle.cells.proofs.Spans.{none_at, any_shifted}
use Rattle.flash.specs.Meaning.{Meaning, Sound}
use Rattle.writer.specs.Needed.{Falls, placed, differs_at, programs_for, erases_for}
use Rattle.writer.specs.Put.{holding, Made}
use Rattle.writer.specs.declared.piece.Piece.{Piece}
use Rattle.writer.proofs.Parts.{Part, part_more}
use Rattle.writer.proofs.Placing.{Halfway, begun, length-begun, begun_all, begun_in, begun_out, begun_none, begun_halfway, holding-more, holding-still}
use Rattle.writer.proofs.Needing.{page_once, programs_most, erases_most, falls_erases, falls_first, falls_then, pages_join, programs_none}

-- an AND with bytes in which no bit has to rise puts them there
pub anded_places : (at : ℕ) (bytes old : List ℕ) → ((k : ℕ) → get_or bytes k 0 < 256) → Falls old (placed at bytes old) → changed at (length bytes) (anded at bytes) old ≡ placed at bytes old
anded_places at bytes old small falls =
    let new = placed at bytes old in
    begun_all at bytes (length bytes) old (changed at (length bytes) (anded at bytes) old) (length-changed at (length bytes) (anded at bytes) old)
    (λ a low high there.
    let is : get_or new a 0 ≡ get_or bytes (a - at) 0 = begun_in at bytes (length bytes) old a low high there in
    get_or-changed at (length bytes) (anded at bytes) old a there
    ∙ changed_inside at (length bytes) (anded at bytes) old a low high
    ∙ ap (λ (y : ℕ). bit_and (get_or old a 0) y) (sym is)
    ∙ and_reaches (get_or old a 0) (get_or new a 0) (let h = small (a - at) in omega (arith, is)) (falls a)
    ∙ is)
    (λ a out. changed_outside at (length bytes) (anded at bytes) old a out)

-- bytes that stand already are put without a change
pub placed_same : (at : ℕ) (bytes old : List ℕ) → any_in (differs_at old (placed at bytes old)) at (length bytes) ≡ false → old ≡ placed at bytes old
placed_same at bytes old none =
    let new = placed at bytes old in
    begun_all at bytes (length bytes) old old refl
    (λ a low high there.
    eqb-true _ _ (not-false (eqb (get_or old a 0) (get_or new a 0)) (none_at (differs_at old new) at (length bytes) a none low high))
    ∙ begun_in at bytes (length bytes) old a low high there)
    (λ a out. refl)

-- a piece of one page is one program, if some byte of it has to change
pub page_programs : (piece : Piece 256) (m : Meaning) (b differs : Bool) → Sound m → piece.at + length piece.bytes.now ≤ length m.bytes → Falls m.bytes (placed piece.at piece.bytes.now m.bytes) → differs ≡ any_in (differs_at m.bytes (placed piece.at piece.bytes.now m.bytes)) piece.at (length piece.bytes.now) → differs ≡ b → cond b 1 0 ≡ programs_for m.bytes (placed piece.at piece.bytes.now m.bytes)
page_programs piece m b differs sound there falls told is =
    let sectors = sound.sectors in
    sym
    (page_once piece.at (length piece.bytes.now) m.bytes (placed piece.at piece.bytes.now m.bytes) piece.some piece.inside there (omega arith) falls (λ a out. sym (begun_out piece.at piece.bytes.now (length piece.bytes.now) m.bytes a out))
    ∙ ap (λ (x : Bool). cond {A = ℕ} x 1 0) (sym told ∙ is))

-- a change that was made, from its counts one by one
pub made_from : (new : List ℕ) (before after : Meaning) (p e t : ℕ) → p ≡ programs_for before.bytes new → e ≡ erases_for before.bytes new → t ≡ p * before.program_ticks + e * before.erase_ticks → after ≡ holding new p e before → Made new before after (p, e, t)
made_from new before after p e t programs erases time is =
    record {
      spent =
          ap (λ (n : ℕ). (p, e, n)) time
          ∙ ap (λ (n : ℕ). (n, e, n * before.program_ticks + e * before.erase_ticks)) programs
          ∙ ap (λ (n : ℕ). (programs_for before.bytes new, n, programs_for before.bytes new * before.program_ticks + n * before.erase_ticks)) erases;
      holds = is;
    }

-- and one that needs no erase
pub made_falling : (new : List ℕ) (before after : Meaning) (programs ticks : ℕ) → Falls before.bytes new → programs ≡ programs_for before.bytes new → ticks ≡ programs * before.program_ticks → after ≡ holding new programs 0 before → Made new before after (programs, 0, ticks)
made_falling new before after programs ticks falls count time is =
    made_from new before after programs 0 ticks count (sym (falls_erases before.bytes new falls)) (omega arith) is

-- what a made change cost, one by one
pub made_programs : (new : List ℕ) (before after : Meaning) (p e t : ℕ) → Made new before after (p, e, t) → p ≡ programs_for before.bytes new
made_programs new before after p e t made = ap (λ (c : ℕ × ℕ × ℕ). c.0) made.spent

pub made_erases : (new : List ℕ) (before after : Meaning) (p e t : ℕ) → Made new before after (p, e, t) → e ≡ erases_for before.bytes new
made_erases new before after p e t made = ap (λ (c : ℕ × ℕ × ℕ). c.1) made.spent

pub made_ticks : (new : List ℕ) (before after : Meaning) (p e t : ℕ) → Made new before after (p, e, t) → t ≡ p * before.program_ticks + e * before.erase_ticks
made_ticks new before after p e t made =
    ap (λ (c : ℕ × ℕ × ℕ). c.2) made.spent
    ∙ ap (λ (n : ℕ). n * before.program_ticks + erases_for before.bytes new * before.erase_ticks) (sym (made_programs new before after p e t made))
    ∙ ap (λ (n : ℕ). p * before.program_ticks + n * before.erase_ticks) (sym (made_erases new before after p e t made))

-- none of the counts comes near 2^32
pub record Few (p e t : ℕ) : Type 0 where
  pub programs : p ≤ 4096
  pub erases : e ≤ 256
  pub ticks : t ≤ 285212672

pub few : (m : Meaning) (new : List ℕ) (p e t : ℕ) → Sound m → p ≡ programs_for m.bytes new → e ≡ erases_for m.bytes new → t ≡ p * m.program_ticks + e * m.erase_ticks → Few p e t
few m new p e t sound programs erases ticks =
    let sectors = sound.sectors in
    let most = sound.most in
    let program_high = sound.program_high in
    let erase_high = sound.erase_high in
    let p-most = programs_most m.bytes new p programs in
    let e-most = erases_most m.bytes new e erases in
    let a = mul-le p m.program_ticks 4096 65536 (omega arith) (omega arith) in
    let b = mul-le e m.erase_ticks 256 65536 (omega arith) (omega arith) in
    record { programs = omega arith; erases = omega arith; ticks = omega arith }

pub made_few : (new : List ℕ) (before after : Meaning) (p e t : ℕ) → Sound before → Made new before after (p, e, t) → Few p e t
made_few new before after p e t sound made =
    few before new p e t sound (made_programs new before after p e t made) (made_erases new before after p e t made) (made_ticks new before after p e t made)

-- a part of a put that needs no erase needs none
falls_over : (at : ℕ) (bytes : List ℕ) (n : ℕ) (old : List ℕ) → n ≤ length bytes → at + length bytes ≤ length old → Falls old (placed at bytes old) → Falls old (begun at bytes n old)
falls_over at bytes n old part fits falls =
    let rest = length bytes - n in
    let all : n + rest ≡ length bytes = omega arith in
    falls_first (at + n) old (begun at bytes n old) (begun at bytes (n + rest) old) (begun_halfway (at + n) at bytes n rest old (omega arith) (omega arith) (λ h. refl))
    (subst (λ (k : ℕ). Falls old (begun at bytes k old)) (sym all) falls)

-- a step in a put that needs no erase keeps clear of one
pub step_falls : (at : ℕ) (bytes : List ℕ) (pos : ℕ) (old : List ℕ) (piece : Piece 256) → Part 256 at bytes old pos piece → Falls old (placed at bytes old) → Falls (begun at bytes pos old) (placed piece.at piece.bytes.now (begun at bytes pos old))
step_falls at bytes pos old piece part falls =
    let len = length piece.bytes.now in
    let inside = part.inside in
    let there = part.there in
    subst (λ (xs : List ℕ). Falls (begun at bytes pos old) xs) (sym (part_more 256 at bytes old pos piece part))
    (falls_then (at + pos) old (begun at bytes pos old) (begun at bytes (pos + len) old) (begun_halfway (at + pos) at bytes pos len old (omega arith) (omega arith) (λ h. refl))
    (falls_over at bytes (pos + len) old inside there falls))

-- one page after another
pub record PagesMade (at : ℕ) (bytes : List ℕ) (pos : ℕ) (m now : Meaning) (programs ticks : ℕ) : Type 0 where
  pub holds : now ≡ holding (begun at bytes pos m.bytes) programs 0 m
  pub count : programs ≡ programs_for m.bytes (begun at bytes pos m.bytes)
  pub time : ticks ≡ programs * m.program_ticks

pub pages_start : (at : ℕ) (bytes : List ℕ) (m : Meaning) → Sound m → m.left ≡ 0 → PagesMade at bytes 0 m m 0 0
pages_start at bytes m sound ready =
    let none = begun_none at bytes m.bytes in
    record {
      holds = holding-still m sound ready ∙ ap (λ (xs : List ℕ). holding xs 0 0 m) none;
      count = sym (ap (programs_for m.bytes) (sym none) ∙ programs_none m.bytes);
      time = omega arith;
    }

pub pages_step : (at : ℕ) (bytes : List ℕ) (pos : ℕ) (m mid after : Meaning) (programs ticks more spent : ℕ) (piece : Piece 256) → Part 256 at bytes m.bytes pos piece → Falls m.bytes (placed at bytes m.bytes) → PagesMade at bytes pos m mid programs ticks → Made (placed piece.at piece.bytes.now mid.bytes) mid after (more, 0, spent) → (n : ℕ) → n ≡ pos + length piece.bytes.now → PagesMade at bytes n m after (programs + more) (ticks + spent)
pages_step at bytes pos m mid after programs ticks more spent piece part falls so_far made n on =
    let old = m.bytes in
    let inside = part.inside in
    let there = part.there in
    let place = part.place in
    let half = begun at bytes pos old in
    let next = begun at bytes n old in
    let here : Meaning = holding half programs 0 m in
    let made-here = subst (λ (x : Meaning). Made (placed piece.at piece.bytes.now x.bytes) x after (more, 0, spent)) so_far.holds made in
    let made-next = subst (λ (xs : List ℕ). Made xs here after (more, 0, spent)) (part_more 256 at bytes old pos piece part ∙ ap (λ (k : ℕ). begun at bytes k old) (sym on)) made-here in
    let count = made_programs next here after more 0 spent made-next in
    let time = made_ticks next here after more 0 spent made-next in
    let b = piece.at / 256 * 256 in
    let half-way = begun_halfway b at bytes pos (length piece.bytes.now) old (omega arith) (omega arith) (λ h. let w = part.begins h in omega arith) in
    let halfway = subst (λ (k : ℕ). Halfway b old half (begun at bytes k old)) (sym on) half-way in
    let falls-next = falls_over at bytes n old (omega arith) there falls in
    let sum = pages_join b old half next (omega arith) halfway falls-next in
    let times = add-mul programs more m.program_ticks in
    let before-time = so_far.time in
    record {
      holds = made-next.holds ∙ holding-more m half next programs 0 more 0;
      count = ap (λ (n : ℕ). n + more) so_far.count ∙ ap (λ (n : ℕ). programs_for old half + n) count ∙ sum;
      time = omega arith;
    }

pub pages_done : (at : ℕ) (bytes : List ℕ) (pos : ℕ) (m after : Meaning) (programs ticks : ℕ) → pos ≡ length bytes → Falls m.bytes (placed at bytes m.bytes) → PagesMade at bytes pos m after programs ticks → Made (placed at bytes m.bytes) m after (programs, 0, ticks)
pages_done at bytes pos m after programs ticks all falls so_far =
    let done = subst (λ (n : ℕ). PagesMade at bytes n m after programs ticks) all so_far in
    made_falling (placed at bytes m.bytes) m after programs ticks falls done.count done.time done.holds

pub pages_few : (at : ℕ) (bytes : List ℕ) (pos : ℕ) (m now : Meaning) (programs ticks : ℕ) → at + length bytes ≤ length m.bytes → pos ≤ length bytes → Sound m → Falls m.bytes (placed at bytes m.bytes) → PagesMade at bytes pos m now programs ticks → Few programs 0 ticks
pages_few at bytes pos m now programs ticks there short sound falls so_far =
    let time = so_far.time in
    few m (begun at bytes pos m.bytes) programs 0 ticks sound so_far.count (sym (falls_erases m.bytes _ (falls_over at bytes pos m.bytes short there falls))) (omega arith)

-- what is known of the bytes before tells whether a part has to change
pub part_changes : (at : ℕ) (bytes : List ℕ) (pos : ℕ) (old : List ℕ) (before : ℕ → ℕ) (piece : Piece 256) → Part 256 at bytes old pos piece → ((k : ℕ) → k < length bytes → before k ≡ get_or old (at + k) 0) → (i : ℕ) → i ≡ pos → any_in (λ k. not (eqb (before (i + k)) (get_or piece.bytes.now k 0))) 0 (length piece.bytes.now) ≡ any_in (differs_at (begun at bytes pos old) (placed piece.at piece.bytes.now (begun at bytes pos old))) piece.at (length piece.bytes.now)
part_changes at bytes pos old before piece part known i same =
    let these = piece.bytes.now in
    let b = piece.at in
    let inside = part.inside in
    let there = part.there in
    let starts = part.place in
    let half = begun at bytes pos old in
    let long = length-begun at bytes pos old in
    any_shifted (λ k. not (eqb (before (i + k)) (get_or these k 0))) (differs_at half (placed b these half)) b (length these)
    (λ k h.
    let place : at + (i + k) ≡ b + k = omega arith in
    let back : b + k - b ≡ k = omega arith in
    ap (λ (x : ℕ). not (eqb x (get_or these k 0)))
    (known (i + k) (omega arith) ∙ ap (λ (a : ℕ). get_or old a 0) place ∙ sym (begun_out at bytes pos old (b + k) (inr (omega arith))))
    ∙ ap (λ (y : ℕ). not (eqb (get_or half (b + k) 0) y))
    (sym (begun_in b these (length these) half (b + k) (omega arith) (omega arith) (omega arith) ∙ ap (λ (j : ℕ). get_or these j 0) back)))
