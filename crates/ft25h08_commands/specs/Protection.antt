-- Which addresses each row of the protection table covers, and the rule that every row keeps.
use Rattle.std.specs.Prelude.{◌≡◌, ℕ, suc, ◌-◌, ◌*◌, ◌%◌, ◌^◌, ◌≤◌, Bool, true, cond, ◌&&◌, List, [], ◌∷◌, ◌==◌, nat_le, nat_lt}
use Rattle.ft25h08_commands.specs.Status.{row_number}
use Rattle.ft25h08_commands.specs.declared.protection.Span.{Span}
use Rattle.ft25h08_commands.specs.declared.settings.Settings.{Settings}

-- how many bytes BP protects: none at 0, then 1, 2, 4 and 8 blocks of 65,536, and all from 5 on
abbrev pub protected_bytes : ℕ → ℕ
protected_bytes bp = cond (bp == 0) 0 (cond (nat_lt bp 5) (32768 * 2 ^ bp) 1048576)

-- the first address and the end of row k: the highest bytes with CMP 0 (rows 0 to 15), the lowest with CMP 1
abbrev pub row : ℕ → ℕ × ℕ
row k =
    cond (nat_lt k 16)
    (cond (k == 0) (0, 0) (1048576 - protected_bytes k, 1048576))
    (0, protected_bytes (k - 16))

-- the address lies in the row of the settings, end excluded
abbrev pub protected_by : Settings → ℕ → Bool
protected_by s a = nat_le (row (row_number s)).0 a && nat_lt a (row (row_number s)).1

-- whole sectors, in order, inside the largest array
pub record Sound (first end : ℕ) : Type 0 where
  pub first_whole : first % 4096 ≡ 0
  pub end_whole : end % 4096 ≡ 0
  pub ordered : first ≤ end
  pub inside : end ≤ 1048576

-- the span is row k of the table, and sound; row 0 is empty
pub record RowOf (k : ℕ) (s : Span) : Type 0 where
  pub first_is : s.first ≡ (row k).0
  pub end_is : s.end ≡ (row k).1
  pub sound : Sound s.first s.end
  pub none : k ≡ 0 → s.first ≡ s.end

-- the test of all that at one entry
abbrev pub right_row : ℕ → Span → Bool
right_row k s =
    (s.first == (row k).0) && s.end == (row k).1 && s.first % 4096 == 0 && s.end % 4096 == 0 && nat_le s.first s.end && nat_le s.end 1048576

-- the test f passes at each entry of a table and its place, counted from i
abbrev pub every : {X : Type 0} → (ℕ → X → Bool) → ℕ → List X → Bool
every f i [] = true
every f i (x ∷ xs) = f i x && every f (suc i) xs
