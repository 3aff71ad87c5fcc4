use Rattle.std.proofs.Common.{ℕ, Bool, ◌&&◌, eqb, refl, ◌∙◌, rules, tests}
use Rattle.std.proofs.lemmas.Iterator.{YieldsList-from_slice}
use Rattle.std.proofs.lemmas.Iterator.Search.{all_from_yields_List}
use Rattle.std.proofs.lemmas.List.Recursion.{same_from_clauses}
use Rattle.std.specs.List.{list_all}
use Rattle.numerals.specs.Fractions.{are_zeros}
use Rattle.numerals.proofs.fixed.are_zeros.Goals as goal

-- a byte is the digit 0
abbrev is_zero : ℕ → Bool
is_zero c = eqb c 48

pub returns : goal.returns
returns c =
    all_from_yields_List is_zero _ _ c.all.result c.all.ensures.ran (YieldsList-from_slice c.args.digits.now cc) (λ x b q k. search (rules, tests))
    ∙ same_from_clauses (list_all is_zero) are_zeros (λ c b. is_zero c && b) refl (λ _ _. refl) (λ _ _. refl) c.args.digits.now
