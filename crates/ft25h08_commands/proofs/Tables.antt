-- A rule of a table, proved at all of its entries by one test that the checker computes.
use Rattle.std.proofs.Common.{◌≡◌, ℕ, zero, suc, ◌+◌, ◌<◌, Bool, true, List, [], ◌∷◌, length, get_or, sym, ◌∙◌, subst, le_of_suc-le-suc, not-suc-le-zero, add-zero, add-suc, suc-add, zero-add, arith}
use Rattle.std.proofs.lemmas.Bool.{and_parts}
use Rattle.std.proofs.lemmas.Bool.Decides.{nat_tests}
use Rattle.ft25h08_commands.specs.Protection.{every, RowOf, right_row}
use Rattle.ft25h08_commands.specs.declared.protection.Span.{Span}

from : {X : Type 0} (f : ℕ → X → Bool) (xs : List X) (d : X) (i : ℕ) → every f i xs ≡ true → (k : ℕ) → k < length xs → f (i + k) (get_or xs k d) ≡ true
from f [] d i t k h = absurd (not-suc-le-zero h)
from f (x ∷ xs) d i t zero h = rw add-zero (and_parts (f i x) (every f (suc i) xs) t).0
from f (x ∷ xs) d i t (suc k) h =
    subst (λ (m : ℕ). f m (get_or xs k d) ≡ true) (suc-add i k ∙ sym (add-suc i k))
    (from f xs d (suc i) (and_parts (f i x) (every f (suc i) xs) t).1 k (le_of_suc-le-suc h))

-- a test that every entry passes, at entry k
pub at : {X : Type 0} (f : ℕ → X → Bool) (xs : List X) (d : X) → every f 0 xs ≡ true → (k : ℕ) → k < length xs → f k (get_or xs k d) ≡ true
at f xs d t k h = subst (λ (m : ℕ). f m (get_or xs k d) ≡ true) (zero-add k) (from f xs d 0 t k h)

-- what a row that passes the test keeps
pub right_row_lem : (k : ℕ) (s : Span) → right_row k s ≡ true → RowOf k s
right_row_lem k s t =
    record {
      first_is = grind (arith, nat_tests);
      end_is = grind (arith, nat_tests);
      sound = record { first_whole = grind (arith, nat_tests); end_whole = grind (arith, nat_tests); ordered = grind (arith, nat_tests); inside = grind (arith, nat_tests) };
      none = λ z. grind (arith, nat_tests);
    }
