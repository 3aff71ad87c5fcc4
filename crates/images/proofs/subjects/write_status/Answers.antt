use Rattle.std.proofs.Common.{◌≡◌, ℕ, List, [], ◌∷◌, sym, refl, ap, ◌∙◌}
use Rattle.cells.specs.Tests.{any_in}
use Rattle.ft25h08_commands.specs.Rules.{touches_protected}
use Rattle.ft25h08_commands.specs.Status.{written, cleared}
use Rattle.ft25h08.specs.Birth.{newborn}
use Rattle.ft25h08.specs.Chip.{Chip}
use Rattle.ft25h08.specs.Counts.{bench_ticks}
use Rattle.ft25h08.specs.Frame.{frame_after}
use Rattle.ft25h08.specs.State.{chip_of}
use Rattle.ft25h08.specs.Tick.{tick_after}
use Rattle.images.specs.Subjects.{with_settings}
use Rattle.images.proofs.subjects.write_status.Goals as goal

-- the chip after a write enable and a status write
writing : ℕ → ℕ → Chip → Chip
writing low high c = frame_after (frame_after c (6 ∷ []) 0 1) (1 ∷ low ∷ high ∷ []) 0 3

-- two ticks later it has landed
wrote : (bytes : List ℕ) (low high : ℕ) → tick_after (tick_after (writing low high (newborn bytes bench_ticks))) ≡ with_settings (written cleared low high) (newborn bytes bench_ticks)
unfolding writing touches_protected any_in
wrote bytes low high = refl

pub returns : goal.returns
unfolding writing
returns c =
    let x = chip_of c.args.chip.now in
    let low = c.args.low in
    let high = c.args.high in
    c.tick-2.ensures
    ∙ ap tick_after
    (c.tick.ensures
    ∙ ap tick_after
    (c.frame-2.ensures.after
    ∙ ap (λ (y : Chip). frame_after y (1 ∷ low ∷ high ∷ []) 0 3) c.frame.ensures.after
    ∙ ap (writing low high) c.requires))
    ∙ wrote x.array low high
    ∙ ap (with_settings (written cleared low high)) (sym c.requires)
