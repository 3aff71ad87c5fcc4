-- The numbers of the refusals of birth, pin and power cut; what is accepted answers 0.
use Rattle.std.specs.Prelude.{ℕ}
use Rattle.ft25h08.specs.declared.refusals.BirthRefusal.{BirthRefusal}
use Rattle.ft25h08.specs.declared.refusals.BirthRefusal.TheVariants as birth
use Rattle.ft25h08.specs.declared.refusals.PinRefusal.{PinRefusal}
use Rattle.ft25h08.specs.declared.refusals.PinRefusal.TheVariants as pin
use Rattle.ft25h08.specs.declared.refusals.CutRefusal.{CutRefusal}
use Rattle.ft25h08.specs.declared.refusals.CutRefusal.TheVariants as cut

abbrev pub birth_number : BirthRefusal → ℕ
birth_number birth.Length = 1
birth_number birth.Ticks = 1

abbrev pub pin_number : PinRefusal → ℕ
pin_number pin.Level = 1

abbrev pub cut_number : CutRefusal → ℕ
cut_number cut.JunkLength = 1
