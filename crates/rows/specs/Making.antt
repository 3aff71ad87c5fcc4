-- Reading by making: what is read off the bytes is handed to the making of a row.
use Rattle.std.specs.Prelude.{◌≡◌, ℕ, Bool, true, false, List, length, Ok, Err, Result, slice_index}
use Rattle.std.proofs.Common.{ap, ◌∙◌, arith}
use Rattle.rows.specs.Rows.{ReadsAs, is_row_long, make_answer, held_by}
use Rattle.rows.specs.declared.refusal.RowRefusal.{RowRefusal}
use Rattle.rows.specs.declared.refusal.RowRefusal.TheVariants.{Length, Kind, NoRow}

-- for a kind whose rows x hold `held x` and write its bytes
module _ {R A : Type 0} (kind body : ℕ) (held : R → A) (row : A → List ℕ) (inside : A → Bool) where
  -- what is made answers the reading of the bytes, if every row that writes them holds something inside the limits
  pub made_reads : (bs : List ℕ) (a : A) (r : Result R RowRefusal) → row a ≡ bs → is_row_long body (length bs) ≡ true → slice_index bs 0 ≡ kind → ((x : R) → row (held x) ≡ bs → inside a ≡ true) → held_by held r ≡ make_answer (inside a) a → ReadsAs kind body (λ x. row (held x)) bs r
  made_reads bs a r e long first only m = by-test (inside a) r only m
    where
      by-test : (b : Bool) (r : Result R RowRefusal) → ((x : R) → row (held x) ≡ bs → b ≡ true) → held_by held r ≡ make_answer b a → ReadsAs kind body (λ x. row (held x)) bs r
      by-test true (Ok x) only m = let same : held x ≡ a = cc in (long, ap row same ∙ e)
      by-test true (Err z) only m = let no : ◌≡◌ {A = ℕ} 0 1 = cc in absurd (omega arith)
      by-test false (Ok x) only m = let no : ◌≡◌ {A = ℕ} 0 1 = cc in absurd (omega arith)
      by-test false (Err Length) only m = let no : ◌≡◌ {A = ℕ} 0 1 = cc in absurd (omega arith)
      by-test false (Err Kind) only m = let no : ◌≡◌ {A = ℕ} 0 1 = cc in absurd (omega arith)
      by-test false (Err NoRow) only m =
          (long, first, λ x h. let never = only x h in let no : ◌≡◌ {A = ℕ} 0 1 = cc in omega arith)
