use Rattle.std.proofs.Common.{◌+◌, ◌*◌, ◌%◌, true, length, sym, ap, ◌∙◌, arith}
use Rattle.ft25h08_commands.specs.Rules.{touches_protected}
use Rattle.ft25h08.specs.Accepted.{starts}
use Rattle.ft25h08.specs.Chip.{Chip, with_enable, conditions_of}
use Rattle.ft25h08.specs.State.{chip_of}
use Rattle.ft25h08_flash.specs.ChipFlash.{chip_meaning, sector_at}
use Rattle.ft25h08_flash.specs.Taken.{taken_most}
use Rattle.ft25h08_flash.proofs.Starting.{sector_inside, sector_marked, erase_free, erase_means}
use Rattle.ft25h08_flash.proofs.taken.Ft25h08Flash.send_erase.Goals as goal

pub overflow_mul-sector : goal.overflow_mul-sector
overflow_mul-sector c = omega (arith, sector_inside c.args.self.now c.args.sector c.requires.place, taken_most c.args.self.now)

pub invariant_of-start_erase : goal.invariant_of-start_erase
invariant_of-start_erase c = omega (arith, sector_inside c.args.self.now c.args.sector c.requires.place, taken_most c.args.self.now)

pub start_erase-requires-clause-free : goal.start_erase-requires-clause-free
start_erase-requires-clause-free c =
    let f = c.args.self.now in
    let sector = c.args.sector in
    let there = c.requires.place in
    ap (λ (y : Chip). touches_protected (conditions_of y) (length y.array) 32 (sector * 4096)) c.enable.ensures
    ∙ erase_free (with_enable true (chip_of f.chip)) sector (sector_inside f sector there) (sym (sector_marked f sector there) ∙ c.requires.free)

pub returns-clause-after : goal.returns-clause-after
returns-clause-after c =
    let f = c.args.self.now in
    let sector = c.args.sector in
    rw (c.count_erase.ensures.programs, c.count_erase.ensures.erases)
    (ap (λ (y : Chip). chip_meaning y f.tallies.programs ((f.tallies.erases + 1) % 4294967296)) c.start_erase.ensures
    ∙ ap (λ (y : Chip). chip_meaning (starts (sector_at (sector * 4096) y) y.ticks.erase_sector y) f.tallies.programs ((f.tallies.erases + 1) % 4294967296)) c.enable.ensures
    ∙ erase_means (chip_of f.chip) sector f.tallies.programs f.tallies.erases (sector_inside f sector c.requires.place))
