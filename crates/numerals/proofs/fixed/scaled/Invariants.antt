use Rattle.std.proofs.Common.{◌≡◌, ◌*◌, ◌^◌, ◌<◌}
use Rattle.numerals.proofs.fixed.scaled.Given as goal

-- the zeros so far are there, and the number fits
abbrev pub invariant-loop : goal.invariant-loop
invariant-loop l = (l.units ≡ l.number * 10 ^ l.counter) × (l.units < 2 ^ 64)
