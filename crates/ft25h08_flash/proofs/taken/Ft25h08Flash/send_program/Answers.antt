use Rattle.std.proofs.Common.{ℕ, ◌+◌, ◌/◌, ◌%◌, ◌<◌, true, length, get_or, sym, ap, ◌∙◌, arith, rules}
use Rattle.ft25h08_commands.specs.Rules.{touches_protected}
use Rattle.ft25h08.specs.Accepted.{starts}
use Rattle.ft25h08.specs.Chip.{Chip, with_enable, conditions_of}
use Rattle.ft25h08.specs.State.{chip_of}
use Rattle.ft25h08_flash.specs.ChipFlash.{chip_meaning, page_at}
use Rattle.ft25h08_flash.proofs.Starting.{in_place, sector_there, sector_marked, program_free, program_means}
use Rattle.ft25h08_flash.proofs.taken.Ft25h08Flash.send_program.Goals as goal

pub start_program-requires-clause-free : goal.start_program-requires-clause-free
start_program-requires-clause-free c =
    let f = c.args.self.now in
    let x = chip_of f.chip in
    let at = c.args.at in
    let place = in_place at (length c.args.new.now) (length x.array) c.requires.place in
    let there = sector_there f at (length c.args.new.now) c.requires.place in
    ap (λ (y : Chip). touches_protected (conditions_of y) (length y.array) 2 at) c.enable.ensures
    ∙ program_free (with_enable true x) at (omega arith) (sym (sector_marked f (at / 4096) there) ∙ c.requires.free)

pub returns-clause-after : goal.returns-clause-after
returns-clause-after c =
    let f = c.args.self.now in
    let x = chip_of f.chip in
    let at = c.args.at in
    let new = c.args.new.now in
    let place = in_place at (length new) (length x.array) c.requires.place in
    let cells : (i : ℕ) → get_or c.array-cells.result.now i 0 < 256 = λ i. search rules in
    rw (c.count_program.ensures.programs, c.count_program.ensures.erases)
    (ap (λ (y : Chip). chip_meaning y ((f.tallies.programs + 1) % 4294967296) f.tallies.erases) c.start_program.ensures
    ∙ ap (λ (y : Chip). chip_meaning (starts (page_at at new y) y.ticks.program y) ((f.tallies.programs + 1) % 4294967296) f.tallies.erases) c.enable.ensures
    ∙ program_means x at new f.tallies.programs f.tallies.erases (omega arith) place.fits (rw c.array-cells.ensures at cells))
