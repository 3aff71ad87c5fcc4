-- Lists of bytes by address: a list made from a rule, and a list of which one range changes.
use Rattle.std.specs.Prelude.{ℕ, ◌+◌, ◌%◌, Bool, cond, ◌&&◌, List, map, length, nat_le, nat_lt, slice_index}
use Rattle.std.specs.List.{range_with_len}

-- the list of n bytes that has f a at each address a
unfoldable pub counted : (ℕ → ℕ) → ℕ → List ℕ
counted f n = map f (range_with_len 0 n)

-- the address a lies among the len addresses from first on
abbrev pub within : ℕ → ℕ → ℕ → Bool
within first len a = nat_le first a && nat_lt a (first + len)

-- the byte at a once a range has changed: inside the range the rule g gives the new byte from the address and
-- the old byte, outside it the old byte stays
abbrev pub changed_at : ℕ → ℕ → (ℕ → ℕ → ℕ) → List ℕ → ℕ → ℕ
changed_at first len g xs a = cond (within first len a) (g a (slice_index xs a)) (slice_index xs a)

-- all bytes once a range has changed: as many as before
unfoldable pub changed : ℕ → ℕ → (ℕ → ℕ → ℕ) → List ℕ → List ℕ
changed first len g xs = counted (changed_at first len g xs) (length xs)

-- the byte at a where a list is repeated over all addresses
abbrev pub wrapped : List ℕ → ℕ → ℕ
wrapped xs a = slice_index xs (a % length xs)
