-- The start of a change on a taken chip: why the chip accepts it, and what it means.
use Rattle.std.proofs.Common.{◌≡◌, ℕ, ◌+◌, ◌-◌, ◌*◌, ◌/◌, ◌%◌, ◌<◌, ◌≤◌, Bool, true, false, eqb, leb, List, length, get_or, Ok, Err, sym, ap, ◌∙◌, mod-eq_of_lt, arith}
use Rattle.std.proofs.lemmas.Bool.{and_parts, leb-true, cond-true, cond-false}
use Rattle.cells.specs.Bytes.{changed}
use Rattle.cells.specs.Changes.{programmed, erased}
use Rattle.cells.specs.Latch.{latched}
use Rattle.cells.proofs.Latching.{page_anded}
use Rattle.flash.specs.Answers.{in_page, start_answer, fresh}
use Rattle.flash.specs.Meaning.{Meaning, program_started, erase_started}
use Rattle.flash.specs.declared.refusal.FlashRefusal.TheVariants.{Range, Busy, Protected}
use Rattle.cells.specs.Tests.{any_in}
use Rattle.ft25h08_commands.specs.Protection.{protected_by}
use Rattle.ft25h08_commands.specs.Rules.{touches_protected, start_of}
use Rattle.ft25h08_commands.proofs.Sizing.{capacity_whole}
use Rattle.ft25h08.specs.Accepted.{starts}
use Rattle.ft25h08.specs.Chip.{Chip, with_enable, conditions_of}
use Rattle.ft25h08_flash.specs.ChipFlash.{sector_mark, chip_meaning, page_at, sector_at}
use Rattle.ft25h08_flash.specs.Taken.{flash_meaning, taken_whole}
use Rattle.ft25h08_flash.specs.Taking.{length_marks, get_or_marks}
use Rattle.ft25h08_flash.specs.declared.taken.Ft25h08Flash.{Ft25h08Flash}
use Rattle.cells.proofs.Spans.{none_inside}

-- The four answers to a start, in the words of the flash. `program` and `erase_sector` are proved without them.
pub out_of_place : (here : Bool) (sector : ℕ) (m : Meaning) → here ≡ false → Err Range ≡ start_answer here sector m
out_of_place here sector m a = sym (cond-false here _ _ a)

pub not_ready : (here : Bool) (sector : ℕ) (m : Meaning) → here ≡ true → eqb m.left 0 ≡ false → Err Busy ≡ start_answer here sector m
not_ready here sector m a b = sym (cond-true here _ _ a ∙ cond-false (eqb m.left 0) _ _ b)

pub marked : (here : Bool) (sector : ℕ) (m : Meaning) → here ≡ true → eqb m.left 0 ≡ true → get_or m.marks sector false ≡ true → Err Protected ≡ start_answer here sector m
marked here sector m a b d = sym (cond-true here _ _ a ∙ cond-true (eqb m.left 0) _ _ b ∙ cond-true (get_or m.marks sector false) _ _ d)

pub free : (here : Bool) (sector : ℕ) (m : Meaning) → here ≡ true → eqb m.left 0 ≡ true → get_or m.marks sector false ≡ false → Ok fresh ≡ start_answer here sector m
free here sector m a b d = sym (cond-true here _ _ a ∙ cond-true (eqb m.left 0) _ _ b ∙ cond-false (get_or m.marks sector false) _ _ d)

-- what a program in its place keeps to
pub record InPlace (at n end : ℕ) : Type 0 where
  pub some : 1 ≤ n
  pub fits : at % 256 + n ≤ 256
  pub inside : at + n ≤ end

pub in_place : (at n end : ℕ) → in_page at n end ≡ true → InPlace at n end
in_place at n end h =
    let some = and_parts (leb 1 n) _ h in
    let rest = and_parts (leb (at % 256 + n) 256) _ some.1 in
    record { some = leb-true 1 n some.0; fits = leb-true (at % 256 + n) 256 rest.0; inside = leb-true (at + n) end rest.1 }

-- a sector that there is begins below the end
pub sector_inside : (f : Ft25h08Flash) (sector : ℕ) → sector < length (flash_meaning f).marks → sector * 4096 < length (flash_meaning f).bytes
sector_inside f sector there = let l = length_marks f.chip.settings (length (flash_meaning f).bytes) in omega arith

-- its mark is what the settings say
pub sector_marked : (f : Ft25h08Flash) (sector : ℕ) → sector < length (flash_meaning f).marks → get_or (flash_meaning f).marks sector false ≡ sector_mark f.chip.settings sector
sector_marked f sector there =
    let size = length (flash_meaning f).bytes in
    let l = length_marks f.chip.settings size in
    get_or_marks f.chip.settings size sector (omega arith)

-- a program in its place lies in a sector that there is
pub sector_there : (f : Ft25h08Flash) (at n : ℕ) → in_page at n (length (flash_meaning f).bytes) ≡ true → at / 4096 < length (flash_meaning f).marks
sector_there f at n h =
    let bytes = (flash_meaning f).bytes in
    let l = length_marks f.chip.settings (length bytes) in
    let w = capacity_whole (length bytes) (taken_whole f) in
    let place = in_place at n (length bytes) h in
    omega arith

-- a page or a sector in a sector that is not marked is not protected
pub erase_free : (c : Chip) (sector : ℕ) → sector * 4096 < length c.array → sector_mark c.settings sector ≡ false → touches_protected (conditions_of c) (length c.array) 32 (sector * 4096) ≡ false
unfolding touches_protected
erase_free c sector inside none =
    let e : (sector * 4096) % length c.array ≡ sector * 4096 = mod-eq_of_lt inside in
    let f : sector * 4096 - sector * 4096 % 4096 ≡ sector * 4096 = omega arith in
    ap (λ (n : ℕ). any_in (protected_by c.settings) (start_of n 4096) 4096) e
    ∙ ap (λ (n : ℕ). any_in (protected_by c.settings) n 4096) f
    ∙ none

pub program_free : (c : Chip) (at : ℕ) → at < length c.array → sector_mark c.settings (at / 4096) ≡ false → touches_protected (conditions_of c) (length c.array) 2 at ≡ false
unfolding touches_protected
program_free c at inside none =
    let e : at % length c.array ≡ at = mod-eq_of_lt inside in
    ap (λ (n : ℕ). any_in (protected_by c.settings) (start_of n 256) 256) e
    ∙ none_inside (protected_by c.settings) (at / 4096 * 4096) 4096 (at - at % 256) 256 none (omega arith) (omega arith)

-- an erase that started, as a flash has it
pub erase_means : (c : Chip) (sector programs erases : ℕ) → sector * 4096 < length c.array → chip_meaning (starts (sector_at (sector * 4096) (with_enable true c)) c.ticks.erase_sector (with_enable true c)) programs ((erases + 1) % 4294967296) ≡ erase_started sector (chip_meaning c programs erases)
erase_means c sector programs erases inside =
    let e : (sector * 4096) % length c.array ≡ sector * 4096 = mod-eq_of_lt inside in
    let f : sector * 4096 - sector * 4096 % 4096 ≡ sector * 4096 = omega arith in
    let later : changed (start_of ((sector * 4096) % length c.array) 4096) 4096 erased c.array ≡ changed (sector * 4096) 4096 erased c.array =
    ap (λ (n : ℕ). changed (start_of n 4096) 4096 erased c.array) e ∙ ap (λ (n : ℕ). changed n 4096 erased c.array) f in
    ap (λ (xs : List ℕ). record { bytes = c.array; left = c.ticks.erase_sector; later = xs; marks = (chip_meaning c programs erases).marks; programs = programs; erases = (erases + 1) % 4294967296; program_ticks = c.ticks.program; erase_ticks = c.ticks.erase_sector }) later

-- a program that started
pub program_means : (c : Chip) (at : ℕ) (new : List ℕ) (programs erases : ℕ) → at < length c.array → at % 256 + length new ≤ 256 → ((i : ℕ) → get_or c.array i 0 < 256) → chip_meaning (starts (page_at at new (with_enable true c)) c.ticks.program (with_enable true c)) ((programs + 1) % 4294967296) erases ≡ program_started at new (chip_meaning c programs erases)
program_means c at new programs erases inside fits bytes =
    let e : at % length c.array ≡ at = mod-eq_of_lt inside in
    ap (λ (xs : List ℕ). record { bytes = c.array; left = c.ticks.program; later = xs; marks = (chip_meaning c programs erases).marks; programs = (programs + 1) % 4294967296; erases = erases; program_ticks = c.ticks.program; erase_ticks = c.ticks.erase_sector })
    (ap (λ (n : ℕ). changed (start_of n 256) 256 (programmed (latched at new)) c.array) e ∙ page_anded at new c.array fits bytes)
