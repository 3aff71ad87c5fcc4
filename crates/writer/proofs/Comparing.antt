-- Whether some byte of a list passes a test, or some pair of bytes at one place of two lists.
use Rattle.std.proofs.Common.{◌≡◌, ℕ, suc, ◌+◌, Bool, true, false, not, eqb, nat_eq, ◌&&◌, ◌||◌, List, [], ◌∷◌, length, get_or, refl, sym, ap, ◌∙◌, arith}
use Rattle.std.proofs.Math.Bool.{or_assoc, or-false}
use lib.Pointwise.{pointwise}
use Rattle.std.specs.List.{list_any, zip, fold}
use Rattle.std.proofs.lemmas.Slice.Zip.{length-zip, get_or-zip}
use Rattle.cells.specs.Tests.{any_in}
use Rattle.cells.proofs.Spans.{any_same, any_shifted}

-- a fold that keeps what it found answers whether it began so or some element passes
pub any_folded : {A : Type 0} (test : A → Bool) (found : Bool) (xs : List A) → fold (λ b x. b || test x) found xs ≡ found || list_any test xs
any_folded test found [] = sym (or-false found)
any_folded test found (x ∷ xs) = any_folded test (found || test x) xs ∙ or_assoc found (test x) (list_any test xs)

-- by the places of the list
pub any_at : {A : Type 0} (test : A → Bool) (d : A) (xs : List A) → list_any test xs ≡ any_in (λ k. test (get_or xs k d)) 0 (length xs)
unfolding any_in
any_at test d [] = refl
any_at test d (x ∷ xs) =
    ap (λ (b : Bool). test x || b) (any_at test d xs ∙ any_shifted (λ k. test (get_or xs k d)) (λ k. test (get_or (x ∷ xs) k d)) 1 (length xs) (λ k h. let next : suc k ≡ 1 + k = omega arith in ap (λ (i : ℕ). test (get_or (x ∷ xs) i d)) next))

-- and of two lists of one length
pub any_pair : (test : ℕ → ℕ → Bool) (xs ys : List ℕ) → length xs ≡ length ys → list_any (λ (p : ℕ × ℕ). test p.0 p.1) (zip xs ys) ≡ any_in (λ k. test (get_or xs k 0) (get_or ys k 0)) 0 (length ys)
any_pair test xs ys same =
    let n : length (zip xs ys) ≡ length ys = length-zip xs ys ∙ omega arith in
    any_at (λ (p : ℕ × ℕ). test p.0 p.1) (0, 0) (zip xs ys)
    ∙ ap (λ (m : ℕ). any_in (λ k. test (get_or (zip xs ys) k (0, 0)).0 (get_or (zip xs ys) k (0, 0)).1) 0 m) n
    ∙ any_same (λ k. test (get_or (zip xs ys) k (0, 0)).0 (get_or (zip xs ys) k (0, 0)).1) (λ k. test (get_or xs k 0) (get_or ys k 0)) 0 (length ys)
    (λ k low high. ap (λ (p : ℕ × ℕ). test p.0 p.1) (get_or-zip xs ys k (0, 0) (omega arith) (omega arith)))

not_both : (a b : Bool) → not (a && b) ≡ not a || not b
not_both true b = refl
not_both false b = refl

-- lists of one length that are not the same have unlike bytes at some place
pub any_unlike : (xs ys : List ℕ) → length xs ≡ length ys → not (pointwise nat_eq xs ys) ≡ list_any (λ (p : ℕ × ℕ). not (eqb p.0 p.1)) (zip xs ys)
any_unlike [] [] same = refl
any_unlike [] (y ∷ ys) same = absurd (omega arith)
any_unlike (x ∷ xs) [] same = absurd (omega arith)
any_unlike (x ∷ xs) (y ∷ ys) same = not_both (nat_eq x y) (pointwise nat_eq xs ys) ∙ ap (λ (b : Bool). not (eqb x y) || b) (any_unlike xs ys (omega arith))
