use Rattle.std.proofs.Common.{◌≡◌, Bool, true, ◌&&◌, length, eqb, eq-eqb, refl, ap, sym, ◌∙◌, rules, tests}
use Rattle.std.proofs.lemmas.Iterator.{YieldsList-from_slice}
use Rattle.std.proofs.lemmas.Iterator.Search.{all_from_yields_List}
use Rattle.std.proofs.lemmas.List.Recursion.{same_from_clauses}
use Rattle.std.specs.List.{list_all}
use Rattle.rows.specs.Limits.{is_letter, all_letters}
use Rattle.rows.proofs.reflector.calls.is_name.Goals as goal

pub returns : goal.returns
returns c =
    let eight : eqb (length c.args.name) 8 ≡ true = search (rules, eq-eqb) in
    all_from_yields_List is_letter _ _ c.all.result c.all.ensures.ran (YieldsList-from_slice c.args.name cc) (λ x b q k. search (rules, tests))
    ∙ same_from_clauses (list_all is_letter) all_letters (λ x b. is_letter x && b) refl (λ _ _. refl) (λ _ _. refl) c.args.name
    ∙ ap (λ (b : Bool). b && all_letters c.args.name) (sym eight)
