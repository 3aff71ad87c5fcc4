-- What `chunks` cuts a list into, and that some pair of two lists passes a test exactly if some pair of some chunk does.
use Rattle.std.proofs.Common.{◌≡◌, ℕ, zero, suc, ◌<◌, ◌≤◌, min, Bool, ◌||◌, List, [], ◌∷◌, ◌++◌, length, take, drop, refl, sym, ap, ◌∙◌, arith}
use Rattle.std.proofs.Math.Seq.{take-append_seam, drop-append_seam}
use Rattle.std.proofs.lemmas.Iterator.{YieldsList}
use Rattle.std.proofs.lemmas.List.{take_min, drop_min, length-drop}
use Rattle.std.proofs.lemmas.List.Folds.{list_any-append}
use Rattle.std.specs.Iterator.{AlwaysYields}
use Rattle.std.specs.List.{list_any, zip}
use Rattle.std.specs.declared.slice.Chunks.{Chunks}
use Rattle.std.specs.Slice.Iter.{chunks_rest, chunks_size, chunks_steps}

-- the first n chunks of a list, each of `size` elements or as many as are left
pub cut : {A : Type 0} → ℕ → ℕ → List A → List (List A)
cut zero size xs = []
cut (suc n) size [] = []
cut (suc n) size (x ∷ xs) = take size (x ∷ xs) ∷ cut n size (drop size (x ∷ xs))

-- the chunks still to come, by what is left
cuts : {A : Type 0} (n size : ℕ) (xs : List A) (s : Chunks A) → length xs ≤ n → 0 < size → chunks_size s ≡ size → chunks_rest s ≡ xs → AlwaysYields chunks_steps (λ x. x.now) s (cut n size xs)
unfolding cut
cuts zero size xs s short some sized e = λ x j p. omega (arith, p.1.2, ap length e, short)
cuts (suc n) size [] s short some sized e = λ x j p. omega (arith, p.1.2, ap length e)
cuts (suc n) size (y ∷ ys) s short some sized e = (
  (λ j p. omega (arith, p.1.0, ap length e)),
  λ x j p.
      let xs = y ∷ ys in
      let whole : x.now ++ chunks_rest j ≡ xs = sym p.1.0 ∙ e in
      let long : length x.now ≡ min size (length xs) = p.1.1 ∙ ap (λ m. min m (length (chunks_rest s))) sized ∙ ap (λ l. min size (length l)) e in
      let front : x.now ≡ take size xs = sym (take-append_seam x.now (chunks_rest j)) ∙ ap (take (length x.now)) whole ∙ ap (λ m. take m xs) long ∙ take_min size xs in
      let back : chunks_rest j ≡ drop size xs = sym (drop-append_seam x.now (chunks_rest j)) ∙ ap (drop (length x.now)) whole ∙ ap (λ m. drop m xs) long ∙ drop_min size xs in
      (front, cuts n size (drop size xs) j (omega (arith, short, length-drop size xs)) some (p.0 ∙ sized) back),
)

-- `chunks` gives them in their order
pub YieldsList-from_chunks : {A : Type 0} {s : Chunks A} (n size : ℕ) (xs : List A) → length xs ≤ n → 0 < size → chunks_size s ≡ size → chunks_rest s ≡ xs → YieldsList chunks_steps (λ x. x.now) s (cut n size xs)
YieldsList-from_chunks {s = s} n size xs short some sized e = record { runs = cuts n size xs s short some sized e }

-- two lists cut at one place have the pairs that they had whole
zip_parts : {A B : Type 0} (k : ℕ) (xs : List A) (ys : List B) → length xs ≡ length ys → zip (take k xs) (take k ys) ++ zip (drop k xs) (drop k ys) ≡ zip xs ys
zip_parts zero xs ys same = refl
zip_parts (suc k) [] [] same = refl
zip_parts (suc k) [] (y ∷ ys) same = absurd (omega (arith, same))
zip_parts (suc k) (x ∷ xs) [] same = absurd (omega (arith, same))
zip_parts (suc k) (x ∷ xs) (y ∷ ys) same = ap (λ ps. (x, y) ∷ ps) (zip_parts k xs ys (omega (arith, same)))

-- some pair of two lists of one length passes a test exactly if some pair of some chunk of them does
pub any_chunk : {A B : Type 0} (test : A × B → Bool) (n size : ℕ) (xs : List A) (ys : List B) → length xs ≡ length ys → length xs ≤ n → 0 < size → list_any (λ p. list_any test (zip p.0 p.1)) (zip (cut n size xs) (cut n size ys)) ≡ list_any test (zip xs ys)
unfolding cut
any_chunk test zero size [] ys same short some = refl
any_chunk test zero size (x ∷ xs) ys same short some = absurd (omega (arith, short))
any_chunk test (suc n) size [] ys same short some = refl
any_chunk test (suc n) size (x ∷ xs) [] same short some = absurd (omega (arith, same))
any_chunk test (suc n) size (x ∷ xs) (y ∷ ys) same short some =
    let a = x ∷ xs in
    let b = y ∷ ys in
    ap (λ found. list_any test (zip (take size a) (take size b)) || found)
    (any_chunk test n size (drop size a) (drop size b) (length-drop size a ∙ omega (arith, same) ∙ sym (length-drop size b)) (omega (arith, short, some, length-drop size a)) some)
    ∙ sym (list_any-append test (zip (take size a) (take size b)) (zip (drop size a) (drop size b)))
    ∙ ap (list_any test) (zip_parts size a b same)
