-- Ticks one after the other.
use Rattle.std.proofs.Common.{◌≡◌, ℕ, zero, suc, false, refl, ap, ◌∙◌}
use Rattle.std.proofs.lemmas.Bool.{true≢false}
use Rattle.ft25h08.specs.Activities.{is_changing}
use Rattle.ft25h08.specs.Chip.{Chip}
use Rattle.ft25h08.specs.Tick.{tick_after, tick_from}
use Rattle.ft25h08.specs.declared.activity.Activity.{Activity}
use Rattle.ft25h08.specs.declared.activity.Activity.TheVariants.{Idle, Asleep, Changing}
use Rattle.bench.specs.Plays.{ticked}

-- with no change under way a tick does nothing
pub still : (a : Activity) (c : Chip) → is_changing a ≡ false → tick_from a c ≡ c
still Idle c h = refl
still Asleep c h = refl
still (Changing change left) c h = absurd (true≢false h)

pub ticked-still : (n : ℕ) (c : Chip) → is_changing c.activity ≡ false → ticked n c ≡ c
unfolding ticked
ticked-still zero c h = refl
ticked-still (suc n) c h = ap (ticked n) (still c.activity c h) ∙ ticked-still n c h

pub ticked_none : (n : ℕ) (c : Chip) → n ≡ 0 → ticked n c ≡ c
unfolding ticked
ticked_none n c e = ap (λ (k : ℕ). ticked k c) e

pub ticked_one : (n m : ℕ) (c : Chip) → n ≡ suc m → ticked n c ≡ ticked m (tick_after c)
unfolding ticked
ticked_one n m c e = ap (λ (k : ℕ). ticked k c) e
