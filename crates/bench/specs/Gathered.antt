-- The text that a value of the code stands for.
use Rattle.std.specs.Prelude.{ℕ, List, vec_items}
use Rattle.bench.specs.declared.text.Text.{Text}

abbrev pub text_of : Text → List ℕ
text_of t = vec_items t.bytes
