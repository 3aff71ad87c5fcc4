use Rattle.std.proofs.Common.{ℕ, ap, ◌+◌, ◌*◌, ◌^◌, ◌<◌, ◌≤◌, get_or, sym, ◌∙◌, arith}
use Rattle.std.proofs.lemmas.Bool.Decides.{nat_tests}
use Rattle.std.specs.Char.{digit_value}
use Rattle.numerals.specs.Digits.{with_digits}
use Rattle.numerals.proofs.Reading.{digit_overflows}
use Rattle.numerals.proofs.digits.append_digits.Goals as goal

pub returns-in_err-sum : goal.returns-in_err-sum
returns-in_err-sum c =
    let l = c.loop-byte in
    let d = digit_value (get_or c.args.digits.now l.byte-index 0) in
    let radix = c.radix-radix.result in
    let low = c.radix-radix.ensures.low in
    let small : d < c.radix-radix.result = grind (arith, nat_tests) in
    let large : 2 ^ 64 ≤ l.sum * c.radix-radix.result + d = grind (arith, nat_tests) in
    c.from_residual-in_err-sum.ensures
    ∙ sym (digit_overflows radix l.sum c.args.digits.now l.byte-index (omega arith) (omega arith) small large)
    ∙ l.invariant.0
    ∙ ap (λ (r : ℕ). with_digits r c.args.number c.args.digits.now) c.radix-radix.ensures.value
