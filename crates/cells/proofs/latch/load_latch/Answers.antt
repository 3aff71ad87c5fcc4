use Rattle.std.proofs.Common.{◌≡◌, ℕ, ◌+◌, List, get_or, sym, ap, ◌∙◌, arith, rules}
use Rattle.std.proofs.lemmas.List.{at_drop_all, get_or-replicate}
use Rattle.cells.specs.Latch.{latch_byte, latched}
use Rattle.cells.proofs.Ranges.{counted_all}
use Rattle.cells.proofs.latch.load_latch.Goals as goal

pub loop-i-init : goal.loop-i-init
loop-i-init c = (
  search rules,
  λ o h.
      let e : c.args.at + 0 ≡ c.args.at = omega arith in
      let f = get_or-replicate 256 o 255 0 h in
      ap (λ (m : ℕ). latch_byte m c.args.bytes.now o _) e ∙ ap (λ (x : ℕ). latch_byte c.args.at c.args.bytes.now o x) f,
)

pub returns : goal.returns
unfolding latched
returns c =
    record {
      loaded =
          counted_all (λ o. latch_byte c.args.at c.args.bytes.now o 255) 256 c.loop-i.latch c.loop-i.invariant.0
          (λ o h.
          sym (at_drop_all (λ (xs : List ℕ). latch_byte (c.args.at + c.loop-i.i) xs o (get_or c.loop-i.latch o 0)) c.args.bytes.now c.loop-i.i (omega arith))
          ∙ c.loop-i.invariant.1 o h);
    }
