use Rattle.std.proofs.Common.{◌≡◌, ◌*◌, ◌++◌, take, drop}
use Rattle.bench.specs.Texts.{hex_of}
use Rattle.bench.proofs.text.hex.write_hex.Given as goal

-- the digits of the bytes before i are written
abbrev pub invariant-loop-i : goal.invariant-loop-i
invariant-loop-i l = l.text ≡ hex_of (take l.i l.bytes) ++ drop (2 * l.i) l.initial.text
