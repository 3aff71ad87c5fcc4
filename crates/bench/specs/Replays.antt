-- A replay on its way: which text it still owes, and what a piece of it prints.
use Rattle.std.specs.Prelude.{◌≡◌, ℕ, ◌<◌, Bool, true, false, cond, List, ◌++◌, drop, MatchBool}
use Rattle.ft25h08.specs.Queries.{status_of}
use Rattle.bench.specs.Plays.{OnBench}
use Rattle.bench.specs.Report.{Prints}
use Rattle.bench.specs.States.{bench_of}
use Rattle.bench.specs.Texts.{status_text, fault_text}
use Rattle.bench.specs.declared.replay.Replay.{Replay}

-- the bench, the offset in the trace, and the lines printed
pub record Place : Type 0 where
  pub bench : OnBench
  pub offset : ℕ
  pub lines : ℕ

abbrev pub replay_of : Replay → Place
replay_of r = record { bench = bench_of r.bench; offset = r.offset; lines = r.lines }

-- before the first record
abbrev pub begins : OnBench → Place
begins b = record { bench = b; offset = 0; lines = 0 }

-- the line that a trace ends with at this place
abbrev pub last_text : Place → List ℕ
last_text p = cond p.bench.selected (fault_text p.offset) (status_text (status_of p.bench.chip))

-- what is still to be printed of a trace
abbrev pub Owes : List ℕ → Place → List ℕ → Type 0
Owes trace p text = Prints p.bench p.lines p.offset (drop p.offset trace) text

-- Some text was printed. If there is more to come, then this text followed by what is owed afterwards is what was
-- owed before; if not, then this text is all that was owed.
pub record Piece (trace : List ℕ) (before after : Place) (out out' : List ℕ) (more : Bool) : Type 0 where
  pub text : List ℕ
  pub wrote : out' ≡ out ++ text
  pub owed : MatchBool more ((rest : List ℕ) → Owes trace after rest → Owes trace before (text ++ rest)) (Owes trace before text)

-- nothing was printed, and as much is owed as before
abbrev pub SameText : List ℕ → Place → Place → Type 0
SameText trace before after = (text : List ℕ) → Owes trace after text → Owes trace before text

-- where there is more to come the replay came further in a trace of so many bytes
abbrev pub Further : ℕ → ℕ → ℕ → Bool → Type 0
Further length at at' true = (at < length) × (at < at')
Further length at at' false = Unit {0}
