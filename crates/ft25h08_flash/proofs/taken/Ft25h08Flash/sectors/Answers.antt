use Rattle.std.proofs.Common.{ℕ, ◌/◌, length, sym, ap, ◌∙◌}
use Rattle.ft25h08.specs.State.{chip_of}
use Rattle.ft25h08_flash.specs.Taking.{length_marks}
use Rattle.ft25h08_flash.proofs.taken.Ft25h08Flash.sectors.Goals as goal

pub returns-clause-count : goal.returns-clause-count
returns-clause-count c =
    let x = chip_of c.args.self.now.chip in
    ap (λ (n : ℕ). n / 4096) c.capacity.ensures ∙ sym (length_marks x.settings (length x.array))
