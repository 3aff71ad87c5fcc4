-- A put, taken piece by piece.
use Rattle.std.proofs.Common.{◌≡◌, ℕ, ◌+◌, ◌-◌, ◌*◌, ◌/◌, ◌%◌, ◌<◌, ◌≤◌, List, length, take, drop, Some, sym, ap, ◌∙◌, arith, length-drop}
use Rattle.std.proofs.lemmas.List.{drop-drop}
use Rattle.std.proofs.Math.Nat.{mul-mod_right}
use Rattle.writer.specs.Needed.{placed}
use Rattle.writer.specs.Pieces.{TakesPiece}
use Rattle.writer.specs.declared.piece.Piece.{Piece}
use Rattle.writer.specs.declared.piece.Pieces.{Pieces}
use Rattle.writer.proofs.Placing.{begun, begun_more}

-- what is left of a put lies at its end, and unless the walk has not begun or is done a unit begins there
pub record Walk (unit at : ℕ) (bytes : List ℕ) (pieces : Pieces unit) : Type 0 where
  pub short : length pieces.rest.now ≤ length bytes
  pub left : pieces.rest.now ≡ drop (length bytes - length pieces.rest.now) bytes
  pub place : pieces.at + length pieces.rest.now ≡ at + length bytes
  pub begins : 0 < length pieces.rest.now → length pieces.rest.now < length bytes → pieces.at % unit ≡ 0

-- a piece of a put, of which pos bytes come before
pub record Part (unit at : ℕ) (bytes held : List ℕ) (pos : ℕ) (piece : Piece unit) : Type 0 where
  pub there : at + length bytes ≤ length held
  pub inside : pos + length piece.bytes.now ≤ length bytes
  pub place : piece.at ≡ at + pos
  pub these : piece.bytes.now ≡ take (length piece.bytes.now) (drop pos bytes)
  pub begins : 0 < pos → piece.at % unit ≡ 0
  pub ends : pos + length piece.bytes.now < length bytes → (at + (pos + length piece.bytes.now)) % unit ≡ 0

-- an address rounded up to the next unit
rounded : (a unit : ℕ) → 0 < unit → (a + (unit - a % unit)) % unit ≡ 0
rounded a unit some =
    let e : a + (unit - a % unit) ≡ unit * (a / unit + 1) = omega arith in
    ap (λ (n : ℕ). n % unit) e ∙ mul-mod_right unit (a / unit + 1)

-- a step of the walk takes such a piece
walk_part : (unit at : ℕ) (bytes held : List ℕ) (pieces after : Pieces unit) (piece : Piece unit) → Walk unit at bytes pieces → TakesPiece unit pieces (Some piece) after → at + length bytes ≤ length held → Part unit at bytes held (length bytes - length pieces.rest.now) piece
walk_part unit at bytes held pieces after piece walk takes there =
    let short = walk.short in
    let place = walk.place in
    let some = piece.some in
    let is = takes.0 in
    let long = takes.4 in
    record {
      there = there;
      inside = omega arith;
      place = omega arith;
      these = takes.1 ∙ ap (λ (k : ℕ). take k pieces.rest.now) (sym long) ∙ ap (take (length piece.bytes.now)) walk.left;
      begins = λ begun. ap (λ (a : ℕ). a % unit) is ∙ walk.begins (omega arith) (omega arith);
      ends = λ more.
          let e : at + (length bytes - length pieces.rest.now + length piece.bytes.now) ≡ pieces.at + (unit - pieces.at % unit) = omega arith in
          ap (λ (n : ℕ). n % unit) e ∙ rounded pieces.at unit pieces.unit;
    }

-- and goes on behind it
walk_on : (unit at : ℕ) (bytes : List ℕ) (pieces after : Pieces unit) (piece : Piece unit) → Walk unit at bytes pieces → TakesPiece unit pieces (Some piece) after → Walk unit at bytes after
walk_on unit at bytes pieces after piece walk takes =
    let short = walk.short in
    let place = walk.place in
    let some = piece.some in
    let is = takes.2 in
    let long = takes.4 in
    let count = ap length takes.3 ∙ length-drop (length piece.bytes.now) pieces.rest.now in
    let on : length bytes - length pieces.rest.now + length piece.bytes.now ≡ length bytes - length after.rest.now = omega arith in
    record {
      short = omega arith;
      left = takes.3 ∙ ap (drop (length piece.bytes.now)) walk.left ∙ drop-drop (length piece.bytes.now) (length bytes - length pieces.rest.now) bytes ∙ ap (λ (k : ℕ). drop k bytes) on;
      place = omega arith;
      begins = λ more began.
          let e : after.at ≡ pieces.at + (unit - pieces.at % unit) = omega arith in
          ap (λ (n : ℕ). n % unit) e ∙ rounded pieces.at unit pieces.unit;
    }

-- a turn of the walk: the piece, and what is left behind it
pub record Turn (unit at : ℕ) (bytes held : List ℕ) (pieces after : Pieces unit) (piece : Piece unit) : Type 0 where
  pub part : Part unit at bytes held (length bytes - length pieces.rest.now) piece
  pub walk : Walk unit at bytes after
  pub on : length bytes - length after.rest.now ≡ length bytes - length pieces.rest.now + length piece.bytes.now

pub turn : (unit at : ℕ) (bytes held : List ℕ) (pieces after : Pieces unit) (piece : Piece unit) → Walk unit at bytes pieces → TakesPiece unit pieces (Some piece) after → at + length bytes ≤ length held → Turn unit at bytes held pieces after piece
turn unit at bytes held pieces after piece walk takes there =
    let next = walk_on unit at bytes pieces after piece walk takes in
    let before = walk.place in
    let behind = next.place in
    let short = next.short in
    let is = takes.2 in
    record { part = walk_part unit at bytes held pieces after piece walk takes there; walk = next; on = omega arith }

-- a piece stands behind those before it
pub part_more : (unit at : ℕ) (bytes held : List ℕ) (pos : ℕ) (piece : Piece unit) → Part unit at bytes held pos piece → placed piece.at piece.bytes.now (begun at bytes pos held) ≡ begun at bytes (pos + length piece.bytes.now) held
part_more unit at bytes held pos piece part =
    let half = begun at bytes pos held in
    ap (λ (b : ℕ). placed b piece.bytes.now half) part.place
    ∙ ap (λ (xs : List ℕ). placed (at + pos) xs half) part.these
    ∙ begun_more at bytes pos (length piece.bytes.now) held part.inside
