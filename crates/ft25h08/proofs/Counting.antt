-- Each tick count of a chip is at least 1.
use Rattle.std.proofs.Common.{◌≡◌, true, ltb}
use Rattle.std.proofs.lemmas.Bool.{and_parts}
use Rattle.ft25h08.specs.Counts.{all_count}
use Rattle.ft25h08.specs.declared.ticks.Ticks.{Ticks}

pub record Counted (t : Ticks) : Type 0 where
  pub status : ltb 0 t.status_write ≡ true
  pub program : ltb 0 t.program ≡ true
  pub sector : ltb 0 t.erase_sector ≡ true
  pub block32 : ltb 0 t.erase_block32 ≡ true
  pub block64 : ltb 0 t.erase_block64 ≡ true
  pub chip : ltb 0 t.erase_chip ≡ true

pub each_count : (t : Ticks) → all_count t ≡ true → Counted t
unfolding all_count
each_count t h =
    let a = and_parts (ltb 0 t.status_write) _ h in
    let b = and_parts (ltb 0 t.program) _ a.1 in
    let d = and_parts (ltb 0 t.erase_sector) _ b.1 in
    let e = and_parts (ltb 0 t.erase_block32) _ d.1 in
    let f = and_parts (ltb 0 t.erase_block64) _ e.1 in
    record { status = a.0; program = b.0; sector = d.0; block32 = e.0; block64 = f.0; chip = f.1 }
