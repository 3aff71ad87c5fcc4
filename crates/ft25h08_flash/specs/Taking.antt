-- A chip as a flash: its marks, what always holds of it, and what a tick makes of it.
use Rattle.std.specs.Prelude.{◌≡◌, ℕ, ◌-◌, ◌/◌, ◌<◌, ◌≤◌, Bool, true, false, cond, List, length, Ok, Err, ◌==◌, nat_lt, slice_index_or, refl}
use Rattle.std.proofs.Common.{sym, ap, ◌∙◌, arith}
use Rattle.std.proofs.lemmas.List.FromFn.{length-map-range_with_len, get_or-map-range_with_len}
use Rattle.std.proofs.lemmas.Bool.{and_parts, ltb-true, eqb-true, true≢false, cond-true, cond-false, lt-ltb, le-ltb}
use Rattle.cells.specs.Changes.{programmed, erased}
use Rattle.cells.proofs.Ranges.{length-changed}
use Rattle.flash.specs.Meaning.{Sound, after_tick}
use Rattle.flash.specs.declared.refusal.FlashRefusal.TheVariants.{Range}
use Rattle.ft25h08_commands.specs.Sizes.{is_capacity}
use Rattle.ft25h08_commands.specs.declared.settings.Settings.{Settings}
use Rattle.ft25h08_commands.proofs.Sizing.{capacity_some, capacity_most, capacity_whole}
use Rattle.ft25h08.specs.Activities.{is_changing}
use Rattle.ft25h08.specs.Chip.{Chip, with_activity}
use Rattle.ft25h08.specs.Tick.{tick_after, tick_from, landed_array, landed}
use Rattle.ft25h08.specs.declared.activity.Activity.{Activity}
use Rattle.ft25h08.specs.declared.activity.Activity.TheVariants.{Idle, Asleep, Changing}
use Rattle.ft25h08.specs.declared.activity.Change.{Change}
use Rattle.ft25h08.specs.declared.activity.Change.TheVariants.{Program, Erase, ProgramSecurity, EraseSecurity, WriteStatus}
use Rattle.ft25h08_flash.specs.ChipFlash.{ticks_left, later_array, sector_mark, marks_of, chip_meaning, of_array, as_flash}

pub length_marks : (s : Settings) (size : ℕ) → length (marks_of s size) ≡ size / 4096
unfolding marks_of
length_marks s size = length-map-range_with_len (sector_mark s) 0 (size / 4096)

pub get_or_marks : (s : Settings) (size sector : ℕ) → sector < size / 4096 → slice_index_or (marks_of s size) sector false ≡ sector_mark s sector
unfolding marks_of
get_or_marks s size sector h = get_or-map-range_with_len (sector_mark s) 0 (size / 4096) sector sector false h (omega arith)

-- a taken chip with no change under way is idle
pub idle_is : (a : Activity) → as_flash a ≡ true → is_changing a ≡ false → a ≡ Idle
idle_is Idle t h = refl
idle_is Asleep t h = absurd (true≢false (sym t))
idle_is (Changing change left) t h = absurd (true≢false h)

length-landed : (ch : Change) (xs : List ℕ) → length (landed_array ch xs) ≡ length xs
length-landed (Program page latch) xs = length-changed page 256 (programmed latch) xs
length-landed (Erase first len) xs = length-changed first len erased xs
length-landed (ProgramSecurity register latch) xs = refl
length-landed EraseSecurity xs = refl
length-landed (WriteStatus new) xs = refl

length_later : (a : Activity) (xs : List ℕ) → length (later_array a xs) ≡ length xs
length_later Idle xs = refl
length_later Asleep xs = refl
length_later (Changing change left) xs = length-landed change xs

left_small : (a : Activity) → as_flash a ≡ true → ticks_left a < 65536
left_small Idle t = omega arith
left_small Asleep t = omega arith
left_small (Changing change left) t = ltb-true left 65536 (and_parts (nat_lt 0 left) _ (and_parts (of_array change) _ t).1).1

at_rest : (a : Activity) (xs : List ℕ) → as_flash a ≡ true → ticks_left a ≡ 0 → later_array a xs ≡ xs
at_rest Idle xs t h = refl
at_rest Asleep xs t h = refl
at_rest (Changing change left) xs t h = let some = ltb-true 0 left (and_parts (nat_lt 0 left) _ (and_parts (of_array change) _ t).1).0 in absurd (omega arith)

pub sound : (c : Chip) (programs erases : ℕ) → is_capacity (length c.array) ≡ true → nat_lt 0 c.ticks.program ≡ true → nat_lt 0 c.ticks.erase_sector ≡ true → c.ticks.program < 65536 → c.ticks.erase_sector < 65536 → as_flash c.activity ≡ true → programs < 4294967296 → erases < 4294967296 → Sound (chip_meaning c programs erases)
sound c programs erases whole p e ps es taken few fewer =
    let n = length c.array in
    let marks = length_marks c.settings n in
    let w = capacity_whole n whole in
    let some = capacity_some n whole in
    let most = capacity_most n whole in
    record {
      sectors = omega arith;
      later_long = length_later c.activity c.array;
      some = omega arith;
      most = omega arith;
      program_low = ltb-true 0 c.ticks.program p;
      program_high = ps;
      erase_low = ltb-true 0 c.ticks.erase_sector e;
      erase_high = es;
      left_high = left_small c.activity taken;
      programs_high = few;
      erases_high = fewer;
      at_rest = at_rest c.activity c.array taken;
    }

-- as many bytes have the same marks
same_marks : (c : Chip) (xs : List ℕ) → length xs ≡ length c.array → marks_of c.settings (length xs) ≡ marks_of c.settings (length c.array)
same_marks c xs e = ap (λ (n : ℕ). marks_of c.settings n) e

-- what is left of a change of the array when its last tick comes
last_tick : (c : Chip) (xs : List ℕ) (left programs erases : ℕ) → left ≡ 1 → length xs ≡ length c.array → record { bytes = xs; left = 0; later = xs; marks = marks_of c.settings (length xs); programs = programs; erases = erases; program_ticks = c.ticks.program; erase_ticks = c.ticks.erase_sector } ≡ after_tick (record { bytes = c.array; left = left; later = xs; marks = marks_of c.settings (length c.array); programs = programs; erases = erases; program_ticks = c.ticks.program; erase_ticks = c.ticks.erase_sector })
last_tick c xs left programs erases one l =
    ap (λ (m : List Bool). record { bytes = xs; left = 0; later = xs; marks = m; programs = programs; erases = erases; program_ticks = c.ticks.program; erase_ticks = c.ticks.erase_sector }) (same_marks c xs l)
    ∙ ap (λ (n : ℕ). after_tick (record { bytes = c.array; left = n; later = xs; marks = marks_of c.settings (length c.array); programs = programs; erases = erases; program_ticks = c.ticks.program; erase_ticks = c.ticks.erase_sector })) (sym one)

-- what is left of it before that
earlier_tick : (c : Chip) (xs : List ℕ) (left programs erases : ℕ) → (left == 1) ≡ false → record { bytes = c.array; left = left - 1; later = xs; marks = marks_of c.settings (length c.array); programs = programs; erases = erases; program_ticks = c.ticks.program; erase_ticks = c.ticks.erase_sector } ≡ after_tick (record { bytes = c.array; left = left; later = xs; marks = marks_of c.settings (length c.array); programs = programs; erases = erases; program_ticks = c.ticks.program; erase_ticks = c.ticks.erase_sector })
earlier_tick c xs left programs erases more =
    ap (λ (bs : List ℕ). record { bytes = bs; left = left - 1; later = xs; marks = marks_of c.settings (length c.array); programs = programs; erases = erases; program_ticks = c.ticks.program; erase_ticks = c.ticks.erase_sector }) (sym (cond-false (left == 1) xs c.array more))

counted_down : (b : Bool) (ch : Change) (left : ℕ) (c : Chip) (programs erases : ℕ) → (left == 1) ≡ b → of_array ch ≡ true → chip_meaning (cond b (landed ch c) (with_activity (Changing ch (left - 1)) c)) programs erases ≡ after_tick (chip_meaning (with_activity (Changing ch left) c) programs erases)
counted_down true (Program page latch) left c programs erases e array = last_tick c (landed_array (Program page latch) c.array) left programs erases (eqb-true left 1 e) (length-landed (Program page latch) c.array)
counted_down false (Program page latch) left c programs erases e array = earlier_tick c (landed_array (Program page latch) c.array) left programs erases e
counted_down true (Erase first len) left c programs erases e array = last_tick c (landed_array (Erase first len) c.array) left programs erases (eqb-true left 1 e) (length-landed (Erase first len) c.array)
counted_down false (Erase first len) left c programs erases e array = earlier_tick c (landed_array (Erase first len) c.array) left programs erases e
counted_down b (ProgramSecurity register latch) left c programs erases e array = absurd (true≢false (sym array))
counted_down b EraseSecurity left c programs erases e array = absurd (true≢false (sym array))
counted_down b (WriteStatus new) left c programs erases e array = absurd (true≢false (sym array))

tick_from_lem : (a : Activity) (c : Chip) (programs erases : ℕ) → as_flash a ≡ true → chip_meaning (tick_from a (with_activity a c)) programs erases ≡ after_tick (chip_meaning (with_activity a c) programs erases)
tick_from_lem Idle c programs erases t = refl
tick_from_lem Asleep c programs erases t = absurd (true≢false (sym t))
tick_from_lem (Changing ch left) c programs erases t = counted_down (left == 1) ch left c programs erases refl (and_parts (of_array ch) _ t).0

-- a tick of the chip is a tick of the flash
pub ticks_on : (c : Chip) (programs erases : ℕ) → as_flash c.activity ≡ true → chip_meaning (tick_after c) programs erases ≡ after_tick (chip_meaning c programs erases)
ticks_on c programs erases t = tick_from_lem c.activity c programs erases t

-- a taken chip that is ready is idle
pub idle_ready : (a : Activity) → as_flash a ≡ true → (ticks_left a == 0) ≡ true → a ≡ Idle
idle_ready Idle t h = refl
idle_ready Asleep t h = absurd (true≢false (sym t))
idle_ready (Changing change left) t h =
    let some = ltb-true 0 left (and_parts (nat_lt 0 left) _ (and_parts (of_array change) _ t).1).0 in
    let none = eqb-true left 0 h in
    absurd (omega arith)

-- Whether a sector has a mark, and so what the question for it answers. `is_protected` is proved without these four.
pub has_mark : (s : Settings) (size sector : ℕ) → sector < size / 4096 → nat_lt sector (length (marks_of s size)) ≡ true
has_mark s size sector h = let l = length_marks s size in lt-ltb sector (length (marks_of s size)) (omega arith)

pub has_none : (s : Settings) (size sector : ℕ) → size / 4096 ≤ sector → nat_lt sector (length (marks_of s size)) ≡ false
has_none s size sector h = let l = length_marks s size in le-ltb sector (length (marks_of s size)) (omega arith)

pub mark_told : (s : Settings) (size sector : ℕ) (r : Bool) → sector < size / 4096 → r ≡ sector_mark s sector → Ok r ≡ cond (nat_lt sector (length (marks_of s size))) (Ok (slice_index_or (marks_of s size) sector false)) (Err Range)
mark_told s size sector r h e = ap Ok (e ∙ sym (get_or_marks s size sector h)) ∙ sym (cond-true (nat_lt sector (length (marks_of s size))) _ (Err Range) (has_mark s size sector h))

pub mark_refused : (s : Settings) (size sector : ℕ) → size / 4096 ≤ sector → Err Range ≡ cond (nat_lt sector (length (marks_of s size))) (Ok (slice_index_or (marks_of s size) sector false)) (Err Range)
mark_refused s size sector h = sym (cond-false (nat_lt sector (length (marks_of s size))) (Ok (slice_index_or (marks_of s size) sector false)) (Err Range) (has_none s size sector h))
