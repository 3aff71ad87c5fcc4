-- The number of each refusal; what is accepted answers 0.
use Rattle.std.specs.Prelude.{ℕ}
use Rattle.rows.specs.declared.refusal.RowRefusal.{RowRefusal}
use Rattle.rows.specs.declared.refusal.RowRefusal.TheVariants.{Length, Kind, NoRow}

abbrev pub row_number_of : RowRefusal → ℕ
row_number_of Length = 1
row_number_of Kind = 11
row_number_of NoRow = 12
