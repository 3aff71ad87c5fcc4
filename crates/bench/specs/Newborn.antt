-- The chip that every trace is replayed over.
use Rattle.std.specs.Prelude.{◌≡◌, ℕ, ◌<◌, vec_items, vec_len, Vec, slice_index}
use Rattle.std.specs.declared.alloc.Global.{Global}
use Rattle.ft25h08.specs.Birth.{newborn}
use Rattle.ft25h08.specs.Counts.{bench_ticks}
use Rattle.bench.specs.Plays.{OnBench, on_bench}

-- 65,536 bytes, each FF
pub record Blank (v : Vec ℕ Global) : Type 0 where
  pub whole : vec_len v ≡ 65536
  pub erased : (a : ℕ) → a < 65536 → slice_index (vec_items v) a ≡ 255

-- a newborn chip over such an array, on the bench with CS# high
pub record OnNewborn (s : OnBench) : Type 0 where
  pub array : Vec ℕ Global
  pub blank : Blank array
  pub born : s ≡ on_bench (newborn (vec_items array) bench_ticks)
