-- Lists of page programs and sector erases, what they turn bytes into, and how many erases they have: no way of turning
-- the old bytes into the new ones has fewer erases than a put.
use Rattle.std.specs.Prelude.{◌≡◌, ℕ, ◌+◌, ◌*◌, ◌%◌, ◌≤◌, List, [], ◌∷◌, length, Ok, Err, Result}
use Rattle.cells.specs.Bytes.{changed}
use Rattle.cells.specs.Changes.{anded, erased}
use Rattle.writer.specs.declared.refusal.PutRefusal.{PutRefusal}

pub data Operation : Type 0 where
  page_program : (at : ℕ) (bytes : List ℕ) → Operation
  sector_erase : (sector : ℕ) → Operation

-- 1 to 256 bytes are ANDed into one page
pub record Programs (at : ℕ) (bytes before after : List ℕ) : Type 0 where
  pub some : 1 ≤ length bytes
  pub one_page : at % 256 + length bytes ≤ 256
  pub inside : at + length bytes ≤ length before
  pub becomes : after ≡ changed at (length bytes) (anded at bytes) before

-- one sector is made FF
pub record Erases (sector : ℕ) (before after : List ℕ) : Type 0 where
  pub inside : sector * 4096 + 4096 ≤ length before
  pub becomes : after ≡ changed (sector * 4096) 4096 erased before

-- an operation turns the bytes `before` into `after`
abbrev pub Does : Operation → List ℕ → List ℕ → Type 0
Does (page_program at bytes) before after = Programs at bytes before after
Does (sector_erase sector) before after = Erases sector before after

-- and a list of operations, one after the other
abbrev pub Turns : List Operation → List ℕ → List ℕ → Type 0
Turns [] before after = before ≡ after
Turns (first ∷ rest) before after = (between : List ℕ) × Does first before between × Turns rest between after

abbrev pub erases_in : List Operation → ℕ
erases_in [] = 0
erases_in (page_program at bytes ∷ rest) = erases_in rest
erases_in (sector_erase sector ∷ rest) = 1 + erases_in rest

-- no list of operations turns the old bytes into the new ones with fewer erases
abbrev pub Fewest : List ℕ → List ℕ → ℕ → Type 0
Fewest old new erases = (operations : List Operation) → Turns operations old new → erases ≤ erases_in operations

-- so of an accepted put
abbrev pub FewestErases : Result (ℕ × ℕ × ℕ) PutRefusal → List ℕ → List ℕ → Type 0
FewestErases (Ok cost) old new = Fewest old new cost.1
FewestErases (Err refusal) old new = Unit {0}
