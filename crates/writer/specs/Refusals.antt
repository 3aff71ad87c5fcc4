-- The number of each refusal of a put; what is accepted answers 0.
use Rattle.std.specs.Prelude.{ℕ}
use Rattle.writer.specs.declared.refusal.PutRefusal.{PutRefusal}
use Rattle.writer.specs.declared.refusal.PutRefusal.TheVariants.{Range, Busy, Protected}

abbrev pub number_of : PutRefusal → ℕ
number_of Range = 1
number_of Busy = 2
number_of (Protected sector) = 3
