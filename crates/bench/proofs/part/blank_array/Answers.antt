use Rattle.std.proofs.Common.{◌≡◌, ℕ, ◌<◌, List, get_or, replicate, vec_items, Vec, ap, ◌∙◌}
use Rattle.std.specs.declared.alloc.Global.{Global}
use Rattle.std.proofs.lemmas.List.{get_or-replicate}
use Rattle.bench.proofs.Appending.{both_made}
use Rattle.bench.proofs.part.blank_array.Goals as goal

filled : (v : Vec ℕ Global) (n : ℕ) → vec_items v ≡ replicate n 255 → (a : ℕ) → a < n → get_or (vec_items v) a 0 ≡ 255
filled v n is a h = ap (λ (xs : List ℕ). get_or xs a 0) is ∙ get_or-replicate n a 255 0 h

pub returns : goal.returns
returns c =
    both_made c.vec.result (λ v whole is. record { whole = whole; erased = filled v 65536 (is (λ y h. h)) }) c.vec.ensures.len c.vec.ensures.items_if_clones_equal
