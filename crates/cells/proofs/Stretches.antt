-- A stretch of a list written over by another list, and cells read around the end.
use Rattle.std.proofs.Common.{◌≡◌, ℕ, ◌+◌, ◌-◌, ◌*◌, ◌/◌, ◌%◌, ◌<◌, ◌≤◌, List, length, get_or, take, drop, sym, ap, ◌∙◌, inl, inr, arith, rules}
use borrow.Rule.Slice.PartMut.{put_mid}
use Rattle.std.proofs.lemmas.Nat.{div-add-mod', mod-mul-add}
use Rattle.std.proofs.lemmas.List.{places, get_or-take, get_or-drop}
use Rattle.std.proofs.lemmas.Bool.{cases_lt}
use Rattle.cells.specs.Bytes.{wrapped}

-- before, inside and after the stretch of m places from pos on
pub before_stretch : (pos m : ℕ) (xs ys : List ℕ) (k : ℕ) → pos + m ≤ length xs → length ys ≡ m → k < pos → get_or (put_mid pos m xs ys) k 0 ≡ get_or xs k 0
before_stretch pos m xs ys k fits l h = search (rules, places)

pub inside_stretch : (pos m : ℕ) (xs ys : List ℕ) (k : ℕ) → pos + m ≤ length xs → length ys ≡ m → pos ≤ k → k < pos + m → get_or (put_mid pos m xs ys) k 0 ≡ get_or ys (k - pos) 0
inside_stretch pos m xs ys k fits l h g = search (rules, places)

pub after_stretch : (pos m : ℕ) (xs ys : List ℕ) (k : ℕ) → pos + m ≤ length xs → length ys ≡ m → pos + m ≤ k → get_or (put_mid pos m xs ys) k 0 ≡ get_or xs k 0
after_stretch pos m xs ys k fits l h = search (rules, places)

pub length_stretch : (pos m : ℕ) (xs ys : List ℕ) → pos + m ≤ length xs → length ys ≡ m → length (put_mid pos m xs ys) ≡ length xs
length_stretch pos m xs ys fits l = search (rules, places)

-- a remainder goes on counting until it comes to the divisor
mod_on : (x d n : ℕ) → x % n + d < n → (x + d) % n ≡ x % n + d
mod_on x d n h =
    let e : x + d ≡ x / n * n + (x % n + d) = let f = div-add-mod' x n in omega arith in
    ap (λ (y : ℕ). y % n) e ∙ mod-mul-add (x / n) n (x % n + d) h

-- a stretch that goes up to the last cell ends where the cells begin again
pub round_ends : (start pos next m n : ℕ) → (start + pos) % n ≡ next → next < n → m ≡ n - next → (start + (pos + m)) % n ≡ 0
round_ends start pos next m n at lt len =
    let e : start + (pos + m) ≡ ((start + pos) / n + 1) * n + 0 = let f = div-add-mod' (start + pos) n in omega arith in
    ap (λ (y : ℕ). y % n) e ∙ mod-mul-add ((start + pos) / n + 1) n 0 (omega arith)

-- one stretch of cells copied, up to the last cell at most: the bytes before it were right, and now it is too
pub stretch_copied : (part cells now-part : List ℕ) (at pos next m n : ℕ) → (at + pos) % length cells ≡ next → next + m ≤ length cells → pos + m ≤ length part → m ≡ n → now-part ≡ take n (drop next cells) → ((k : ℕ) → k < pos → get_or part k 0 ≡ wrapped cells (at + k)) → (k : ℕ) → k < pos + m → get_or (put_mid pos n part now-part) k 0 ≡ wrapped cells (at + k)
stretch_copied part cells now-part at pos next m n begins fits room e is done k h =
    let l : length now-part ≡ n = ap length is ∙ search (rules, places) in
    elim (cases_lt k pos) [
      | inl lt ↦ before_stretch pos n part now-part k (omega arith) l lt ∙ done k lt
      | inr ge ↦
          let d = k - pos in
          let sum : at + pos + d ≡ at + k = omega arith in
          inside_stretch pos n part now-part k (omega arith) l ge (omega arith)
          ∙ ap (λ (zs : List ℕ). get_or zs d 0) is
          ∙ get_or-take n (drop next cells) d 0 (omega arith)
          ∙ get_or-drop next cells d 0
          ∙ ap (λ (i : ℕ). get_or cells i 0) (ap (λ (i : ℕ). i + d) (sym begins) ∙ sym (mod_on (at + pos) d (length cells) (omega arith)) ∙ ap (λ (i : ℕ). i % length cells) sum)
    ]
