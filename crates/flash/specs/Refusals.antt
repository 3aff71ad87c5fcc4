-- The number of each refusal; what is accepted answers 0.
use Rattle.std.specs.Prelude.{ℕ}
use Rattle.flash.specs.declared.refusal.FlashRefusal.{FlashRefusal}
use Rattle.flash.specs.declared.refusal.FlashRefusal.TheVariants.{Range, Busy, Protected}

abbrev pub number_of : FlashRefusal → ℕ
number_of Range = 1
number_of Busy = 2
number_of Protected = 3
