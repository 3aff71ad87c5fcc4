-- A code among others.
use Rattle.std.proofs.Common.{◌≡◌, ℕ, Bool, ◌||◌, List, [], ◌∷◌, ◌==◌, refl, ap, ◌∙◌, arith}
use Rattle.std.proofs.lemmas.Bool.Decides.{nat_tests}
use Rattle.std.specs.List.{list_any}
use Rattle.ft25h08_commands.specs.Frames.{among}

flipped : (a b : ℕ) → (a == b) ≡ (b == a)
flipped a b = grind (arith, nat_tests)

-- the library's test for a code is ours
pub among_any : (c : ℕ) (xs : List ℕ) → list_any (λ y. y == c) xs ≡ among c xs
among_any c [] = refl
among_any c (x ∷ xs) = ap (λ (b : Bool). b || list_any (λ y. y == c) xs) (flipped x c) ∙ ap (λ (b : Bool). c == x || b) (among_any c xs)
