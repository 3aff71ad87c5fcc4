-- Bytes put at an address, a part of them after the other; and a flash that holds them.
use Rattle.std.proofs.Common.{◌≡◌, ℕ, ◌+◌, ◌-◌, ◌%◌, ◌<◌, ◌≤◌, ◌⊎◌, List, length, get_or, take, drop, sym, ap, ◌∙◌, inl, inr, arith, length-drop}
use Rattle.std.proofs.lemmas.List.{ext_get_or, get_or-take, get_or-drop, length-take-le}
use Rattle.std.proofs.lemmas.Bool.{cases_lt}
use Rattle.cells.specs.Bytes.{changed}
use Rattle.cells.specs.Changes.{replaced}
use Rattle.cells.proofs.Ranges.{length-changed, get_or-changed, changed_inside, changed_outside, changed_none}
use Rattle.flash.specs.Meaning.{Meaning, Sound}
use Rattle.writer.specs.Needed.{placed}
use Rattle.writer.specs.Put.{holding}

-- the first n bytes of a put stand
abbrev pub begun : ℕ → List ℕ → ℕ → List ℕ → List ℕ
begun at bytes n old = changed at n (replaced at bytes) old

pub length-begun : (at : ℕ) (bytes : List ℕ) (n : ℕ) (old : List ℕ) → length (begun at bytes n old) ≡ length old
length-begun at bytes n old = length-changed at n (replaced at bytes) old

pub begun_in : (at : ℕ) (bytes : List ℕ) (n : ℕ) (old : List ℕ) (a : ℕ) → at ≤ a → a < at + n → a < length old → get_or (begun at bytes n old) a 0 ≡ get_or bytes (a - at) 0
begun_in at bytes n old a low high there =
    get_or-changed at n (replaced at bytes) old a there ∙ changed_inside at n (replaced at bytes) old a low high

pub begun_out : (at : ℕ) (bytes : List ℕ) (n : ℕ) (old : List ℕ) (a : ℕ) → (a < at) ⊎ (at + n ≤ a) → get_or (begun at bytes n old) a 0 ≡ get_or old a 0
begun_out at bytes n old a outside = changed_outside at n (replaced at bytes) old a outside

-- a list that has the bytes at their place and is otherwise as before
pub begun_all : (at : ℕ) (bytes : List ℕ) (n : ℕ) (old ys : List ℕ) → length ys ≡ length old → ((a : ℕ) → at ≤ a → a < at + n → a < length old → get_or ys a 0 ≡ get_or bytes (a - at) 0) → ((a : ℕ) → (a < at) ⊎ (at + n ≤ a) → get_or ys a 0 ≡ get_or old a 0) → ys ≡ begun at bytes n old
begun_all at bytes n old ys l inside outside =
    ext_get_or 0 ys (begun at bytes n old) (l ∙ sym (length-begun at bytes n old))
    (λ a h.
    elim (cases_lt a at) [
      | inl before ↦ outside a (inl before) ∙ sym (begun_out at bytes n old a (inl before))
      | inr since ↦
          elim (cases_lt a (at + n)) [
            | inl within ↦ inside a since within (omega arith) ∙ sym (begun_in at bytes n old a since within (omega arith))
            | inr behind ↦ outside a (inr behind) ∙ sym (begun_out at bytes n old a (inr behind))
          ]
    ])

-- nothing of it stands yet
pub begun_none : (at : ℕ) (bytes old : List ℕ) → old ≡ begun at bytes 0 old
begun_none at bytes old = changed_none at (replaced at bytes) old

-- a part of the bytes is as long as it should be
pub length_part : (bytes : List ℕ) (pos n : ℕ) → pos + n ≤ length bytes → length (take n (drop pos bytes)) ≡ n
length_part bytes pos n fits = length-take-le n (drop pos bytes) (omega (arith, length-drop pos bytes))

-- bytes that were read are those that stand from an address on
pub read_from : (held read : List ℕ) (at n : ℕ) → read ≡ take n (drop at held) → (k : ℕ) → k < n → get_or read k 0 ≡ get_or held (at + k) 0
read_from held read at n is k h = ap (λ (xs : List ℕ). get_or xs k 0) is ∙ get_or-take n (drop at held) k 0 h ∙ get_or-drop at held k 0

-- the next bytes are put behind the first
pub begun_more : (at : ℕ) (bytes : List ℕ) (pos len : ℕ) (old : List ℕ) → pos + len ≤ length bytes → placed (at + pos) (take len (drop pos bytes)) (begun at bytes pos old) ≡ begun at bytes (pos + len) old
begun_more at bytes pos len old fits =
    let part = take len (drop pos bytes) in
    let mid = begun at bytes pos old in
    let l = length-begun at bytes pos old in
    let n = length_part bytes pos len fits in
    begun_all at bytes (pos + len) old (placed (at + pos) part mid) (length-begun (at + pos) part (length part) mid ∙ l)
    (λ a low high there.
    elim (cases_lt a (at + pos)) [
      | inl first ↦ begun_out (at + pos) part (length part) mid a (inl first) ∙ begun_in at bytes pos old a low first there
      | inr next ↦
          let k = a - (at + pos) in
          let back : pos + k ≡ a - at = omega arith in
          begun_in (at + pos) part (length part) mid a next (omega arith) (omega arith)
          ∙ get_or-take len (drop pos bytes) k 0 (omega arith)
          ∙ get_or-drop pos bytes k 0
          ∙ ap (λ (i : ℕ). get_or bytes i 0) back
    ])
    (λ a out.
    begun_out (at + pos) part (length part) mid a (elim out [ inl h ↦ inl (omega arith) | inr h ↦ inr (omega arith) ])
    ∙ begun_out at bytes pos old a (elim out [ inl h ↦ inl h | inr h ↦ inr (omega arith) ]))

-- the bytes mid are the new ones below the address b, and the old ones from there on
pub record Halfway (b : ℕ) (old mid new : List ℕ) : Type 0 where
  pub long : length mid ≡ length old
  pub below : (a : ℕ) → a < b → get_or mid a 0 ≡ get_or new a 0
  pub above : (a : ℕ) → b ≤ a → get_or mid a 0 ≡ get_or old a 0

-- a put that has begun is halfway to one that has gone on; where it has not begun, from any address before it
pub begun_halfway : (b at : ℕ) (bytes : List ℕ) (pos len : ℕ) (old : List ℕ) → at + (pos + len) ≤ length old → b ≤ at + pos → (0 < pos → b ≡ at + pos) → Halfway b old (begun at bytes pos old) (begun at bytes (pos + len) old)
begun_halfway b at bytes pos len old fits low begins =
    record {
      long = length-begun at bytes pos old;
      below = λ a h.
          elim (cases_lt a at) [
            | inl before ↦ begun_out at bytes pos old a (inl before) ∙ sym (begun_out at bytes (pos + len) old a (inl before))
            | inr since ↦ begun_in at bytes pos old a since (omega arith) (omega arith) ∙ sym (begun_in at bytes (pos + len) old a since (omega arith) (omega arith))
          ];
      above = λ a h.
          elim (cases_lt 0 pos) [
            | inl some ↦ let e = begins some in begun_out at bytes pos old a (inr (omega arith))
            | inr none ↦ begun_out at bytes pos old a (elim (cases_lt a at) [ inl before ↦ inl before | inr since ↦ inr (omega arith) ])
          ];
    }

-- a flash that holds bytes and has so many programs and erases behind it
abbrev tallied : List ℕ → ℕ → ℕ → Meaning → Meaning
tallied bytes programs erases m = record { bytes = bytes; left = 0; later = bytes; marks = m.marks; programs = programs; erases = erases; program_ticks = m.program_ticks; erase_ticks = m.erase_ticks }

-- one change after another
pub holding-more : (m : Meaning) (first second : List ℕ) (p e q f : ℕ) → holding second q f (holding first p e m) ≡ holding second (p + q) (e + f) m
holding-more m first second p e q f =
    let programs : ((m.programs + p) % 4294967296 + q) % 4294967296 ≡ (m.programs + (p + q)) % 4294967296 = omega arith in
    let erases : ((m.erases + e) % 4294967296 + f) % 4294967296 ≡ (m.erases + (e + f)) % 4294967296 = omega arith in
    ap (λ (n : ℕ). tallied second n (((m.erases + e) % 4294967296 + f) % 4294967296) m) programs
    ∙ ap (λ (n : ℕ). tallied second ((m.programs + (p + q)) % 4294967296) n m) erases

-- a flash that is ready holds its bytes
pub holding-still : (m : Meaning) → Sound m → m.left ≡ 0 → m ≡ holding m.bytes 0 0 m
holding-still m sound ready i =
    let programs : m.programs ≡ (m.programs + 0) % 4294967296 = let h = sound.programs_high in omega arith in
    let erases : m.erases ≡ (m.erases + 0) % 4294967296 = let h = sound.erases_high in omega arith in
    record { bytes = m.bytes; left = ready i; later = sound.at_rest ready i; marks = m.marks; programs = programs i; erases = erases i; program_ticks = m.program_ticks; erase_ticks = m.erase_ticks }
