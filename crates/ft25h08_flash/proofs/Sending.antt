-- What a write enable and a release from deep power-down do.
use Rattle.std.proofs.Common.{◌≡◌, true, false, [], ◌∷◌, sym, refl, ap, subst}
use Rattle.std.proofs.lemmas.Bool.{true≢false}
use Rattle.cells.specs.Tests.{any_in}
use Rattle.ft25h08_commands.specs.Rules.{touches_protected}
use Rattle.ft25h08.specs.Activities.{is_changing}
use Rattle.ft25h08.specs.Chip.{Chip, with_enable, with_activity}
use Rattle.ft25h08.specs.Frame.{frame_after}
use Rattle.ft25h08.specs.declared.activity.Activity.{Activity}
use Rattle.ft25h08.specs.declared.activity.Activity.TheVariants.{Idle, Asleep, Changing}

-- a chip whose activity is known
as_known : (c : Chip) (a : Activity) → c.activity ≡ a → with_activity a c ≡ c
as_known c a e = ap (λ (x : Activity). with_activity x c) (sym e)

-- a write enable of an idle chip
enabled_idle : (c : Chip) → frame_after (with_activity Idle c) (6 ∷ []) 0 1 ≡ with_enable true (with_activity Idle c)
unfolding touches_protected any_in
enabled_idle c = refl

-- the same of a chip that is idle
pub enables : (c : Chip) → c.activity ≡ Idle → frame_after c (6 ∷ []) 0 1 ≡ with_enable true c
enables c e = subst (λ (x : Chip). frame_after x (6 ∷ []) 0 1 ≡ with_enable true x) (as_known c Idle e) (enabled_idle c)

-- a release from deep power-down, by the activity
woken : (a : Activity) (c : Chip) → is_changing a ≡ false → frame_after (with_activity a c) (171 ∷ []) 0 1 ≡ with_activity Idle (with_activity a c)
unfolding touches_protected any_in
woken Idle c h = refl
woken Asleep c h = refl
woken (Changing change left) c h = absurd (true≢false h)

-- the same of a chip
pub wakes : (c : Chip) → is_changing c.activity ≡ false → frame_after c (171 ∷ []) 0 1 ≡ with_activity Idle c
wakes c e = woken c.activity c e
