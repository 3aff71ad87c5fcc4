-- What the bench prints for a trace, in full.
use Rattle.std.specs.Prelude.{◌≡◌, ℕ, ◌+◌, true, false, List, [], ◌++◌, drop, Some, None, ◌≢◌}
use Rattle.ft25h08.specs.Queries.{status_of}
use Rattle.bench.specs.Plays.{OnBench, allowed, played, printed}
use Rattle.bench.specs.Records.{record_in, record_length, lines_of}
use Rattle.bench.specs.Texts.{status_text, fault_text}
use Rattle.bench.specs.declared.record.Record.{Record}

-- `Prints s n at rest text`: from the state s, with n lines printed and the trace read up to the offset at, what is
-- left of the trace prints this text.
pub data Prints : OnBench → ℕ → ℕ → List ℕ → List ℕ → Type 0 where
  -- the trace ends with CS# high: the status
  ends : {s : OnBench} {n at : ℕ} {rest : List ℕ} → rest ≡ [] → s.selected ≡ false → Prints s n at rest (status_text (status_of s.chip))
  -- it ends with CS# low: a fault at its end
  ends_low : {s : OnBench} {n at : ℕ} {rest : List ℕ} → rest ≡ [] → s.selected ≡ true → Prints s n at rest (fault_text at)
  -- an unknown kind, or a body that is cut off: a fault there
  no_record : {s : OnBench} {n at : ℕ} {rest : List ℕ} → (rest ≢ []) → record_in rest ≡ None → Prints s n at rest (fault_text at)
  -- a record that may not come now: a fault there
  not-now : {s : OnBench} {n at : ℕ} {rest : List ℕ} {r : Record} → record_in rest ≡ Some r → allowed r s ≡ false → Prints s n at rest (fault_text at)
  -- any other record is played and prints its line, and the trace goes on behind it
  goes_on : {s : OnBench} {n at : ℕ} {rest more : List ℕ} {r : Record} → record_in rest ≡ Some r → allowed r s ≡ true → Prints (played r s) (n + lines_of r) (at + record_length r) (drop (record_length r) rest) more → Prints s n at rest (printed r (n + 1) s ++ more)
