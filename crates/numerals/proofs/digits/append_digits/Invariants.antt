use Rattle.std.proofs.Common.{◌≡◌, ◌^◌, ◌<◌, drop}
use Rattle.numerals.specs.Digits.{with_digits}
use Rattle.numerals.proofs.digits.append_digits.Given as goal

-- what is left to read, after the number so far, gives the answer; the number so far fits
abbrev pub invariant-loop-byte : goal.invariant-loop-byte
invariant-loop-byte l = (with_digits l.radix l.sum (drop l.byte-index l.digits) ≡ with_digits l.radix l.number l.digits) × (l.sum < 2 ^ 64)
