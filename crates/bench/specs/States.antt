-- The bench that a value of the code stands for.
use Rattle.ft25h08.specs.State.{chip_of}
use Rattle.bench.specs.Plays.{OnBench}
use Rattle.bench.specs.declared.bench.Bench.{Bench}

abbrev pub bench_of : Bench → OnBench
bench_of b = record { chip = chip_of b.chip; selected = b.selected; frame = b.frame.items }
