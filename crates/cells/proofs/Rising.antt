-- Which bits an AND can bring about.
use Rattle.std.proofs.Common.{◌≡◌, ℕ, ◌<◌, true, false, not, eqb, sym, ◌∙◌, inl, inr, arith}
use lib.Bits.{bit_and}
use Rattle.std.proofs.lemmas.Nat.{and_mask, and_le_r}
use Rattle.std.proofs.lemmas.Nat.Bits.{bit_at_and, bit_at_ones, bit_at-lt, same_from_bits_below}
use Rattle.std.proofs.lemmas.Bool.{cases_Bool, eq-eqb, ne_eqb, not_from_true, not_from_false}
use Rattle.std.proofs.lemmas.Bool.Decides.{nat_tests}
use Rattle.cells.specs.Bits.{rises_in, rises}
use Rattle.cells.proofs.Spans.{any_gives, any_from, any_none, none_at}

-- what had to rise still has to after an AND
pub rises_and : (old mask new : ℕ) → rises old new ≡ true → rises (bit_and old mask) new ≡ true
unfolding rises
rises_and old mask new e =
    let h = any_gives (rises_in old new) 0 8 e in
    let up = h.holds in
    let both = bit_at_and old mask h.at in
    any_from (rises_in (bit_and old mask) new) 0 8 (record { at = h.at; from = h.from; below = h.below; holds = grind (arith, nat_tests) })

-- a byte that stays has nothing that rises
pub rises_same : (x : ℕ) → rises x x ≡ false
unfolding rises
rises_same x = any_none (rises_in x x) 0 8 (λ k low high. grind (arith, nat_tests))

-- an AND with the new byte gives the new byte if nothing rises
pub and_reaches : (old new : ℕ) → new < 256 → rises old new ≡ false → bit_and old new ≡ new
unfolding rises
and_reaches old new small none =
    same_from_bits_below 8 (bit_and old new) new (omega (arith, and_le_r old new)) small
    (λ k h.
    let stays = none_at (rises_in old new) 0 8 k none (omega arith) (omega arith) in
    let a = bit_at-lt old k in
    let b = bit_at-lt new k in
    bit_at_and old new k ∙ grind (arith, nat_tests))

-- and otherwise does not
and_misses : (old new : ℕ) → rises old new ≡ true → bit_and old new ≡ new → ⊥
unfolding rises
and_misses old new some e =
    let h = any_gives (rises_in old new) 0 8 some in
    let up = h.holds in
    let both = bit_at_and old new h.at in
    grind (arith, nat_tests)

-- the test by one AND
pub rises_is : (old new : ℕ) → new < 256 → not (eqb (bit_and old new) new) ≡ rises old new
rises_is old new small =
    elim (cases_Bool (rises old new)) [
      | inl some ↦ not_from_false (eqb (bit_and old new) new) (ne_eqb (bit_and old new) new (and_misses old new some)) ∙ sym some
      | inr none ↦ not_from_true (eqb (bit_and old new) new) (eq-eqb (bit_and old new) new (and_reaches old new small none)) ∙ sym none
    ]

-- FF clears no bit of a byte
pub and_full : (x : ℕ) → x < 256 → bit_and x 255 ≡ x
and_full x h = omega (arith, and_mask x 8)

-- from FF nothing rises
pub rises-blank : (new : ℕ) → rises 255 new ≡ false
unfolding rises
rises-blank new = any_none (rises_in 255 new) 0 8 (λ k low high. let one = bit_at_ones 8 k (omega arith) in grind (arith, nat_tests))
