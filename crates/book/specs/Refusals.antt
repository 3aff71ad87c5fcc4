-- The number of each refusal of a get; what is accepted answers 0. And what a get answers if a row's bytes are refused.
use Rattle.std.specs.Prelude.{ℕ}
use Rattle.rows.specs.declared.refusal.RowRefusal.{RowRefusal}
use Rattle.rows.specs.declared.refusal.RowRefusal.TheVariants as row
use Rattle.book.specs.declared.refusal.GetRefusal.{GetRefusal}
use Rattle.book.specs.declared.refusal.GetRefusal.TheVariants.{Range, Busy, Kind, NoRow}

abbrev pub number_of : GetRefusal → ℕ
number_of Range = 1
number_of Busy = 2
number_of Kind = 11
number_of NoRow = 12

abbrev pub read_refusal : RowRefusal → GetRefusal
read_refusal row.Length = Range
read_refusal row.Kind = Kind
read_refusal row.NoRow = NoRow
