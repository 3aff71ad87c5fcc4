use Rattle.std.proofs.Common.{ℕ, ◌-◌, List, length, subst, sym, ap, ◌∙◌, arith}
use Rattle.std.proofs.lemmas.List.{length_push}
use Rattle.bench.proofs.Clocking.{Clocking, one_more}
use Rattle.bench.proofs.bench.clock.clock_into.Goals as goal

pub loop-byte-preserved : goal.loop-byte-preserved
loop-byte-preserved c =
    let before = c.args.frame.now.items in
    let frame = c.loop-byte.frame.items in
    let n = length c.loop-byte.frame.items - length c.args.frame.now.items in
    let m = length c.push.new.self.items - length c.args.frame.now.items in
    let kept = c.loop-byte.invariant.0 in
    let l = ap length c.push.ensures.items ∙ length_push frame c.in-Some.byte in (
      omega arith,
      subst (λ (xs : List ℕ). Clocking m c.args.rest.now c.in-Some.tail.now before xs) (sym c.push.ensures.items)
          (one_more n m c.args.rest.now c.loop-byte.left.now before frame c.in-Some.tail.now c.in-Some.byte c.loop-byte.invariant.1 c.in-Some.ensures (omega arith)),
    )
