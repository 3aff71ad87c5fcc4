-- Text that grows at its end.
use Rattle.std.proofs.Common.{◌≡◌, ℕ, ◌+◌, ◌*◌, ◌<◌, List, [], ◌∷◌, ◌++◌, length, get_or, take, drop, set, IfOk, Ok, Err, Result, sym, refl, ap, ◌∙◌, arith, rules}
use Rattle.std.proofs.lemmas.List.{append_assoc, set_at, length_push, take_more, drop_more, places}
use Rattle.bench.specs.Texts.{hex_byte, hex_of}

-- a fact of what a call made, carried on
pub still_made : {T E : Type 0} {P Q : T → Type 0} (r : Result T E) → ((x : T) → P x → Q x) → IfOk r P → IfOk r Q
still_made (Ok x) f h = f x h
still_made (Err e) f h = h

-- two facts of what a call made, joined
pub both_made : {T E : Type 0} {P Q R : T → Type 0} (r : Result T E) → ((x : T) → P x → Q x → R x) → IfOk r P → IfOk r Q → IfOk r R
both_made (Ok x) f h g = f x h g
both_made (Err e) f h g = h

-- one piece after the other
pub then : (start a b : List ℕ) {middle end : List ℕ} → middle ≡ start ++ a → end ≡ middle ++ b → end ≡ start ++ (a ++ b)
then start a b e f = f ∙ ap (λ (xs : List ℕ). xs ++ b) e ∙ append_assoc start a b

-- two digits for each byte
pub length-hex_of : (bytes : List ℕ) → length (hex_of bytes) ≡ 2 * length bytes
length-hex_of [] = refl
length-hex_of (b ∷ bytes) = let e = length-hex_of bytes in omega arith

hex_of-append : (xs ys : List ℕ) → hex_of (xs ++ ys) ≡ hex_of xs ++ hex_of ys
hex_of-append [] ys = refl
hex_of-append (x ∷ xs) ys = ap (λ (zs : List ℕ). hex_byte x ++ zs) (hex_of-append xs ys)

pair_set : (front rest : List ℕ) (x y v w n : ℕ) → length front ≡ n → set (set (front ++ x ∷ (y ∷ rest)) n v) (n + 1) w ≡ front ++ v ∷ (w ∷ rest)
pair_set front rest x y v w n l =
    ap (λ (zs : List ℕ). set zs (n + 1) w) (set_at front x (y ∷ rest) v n l ∙ sym (append_assoc front (v ∷ []) (y ∷ rest)))
    ∙ set_at (front ++ v ∷ []) y rest w (n + 1) (length_push front v ∙ omega arith)
    ∙ append_assoc front (v ∷ []) (w ∷ rest)

-- the digits of one byte more
pub hex_more : (old text bytes : List ℕ) (i high low : ℕ) → length old ≡ 2 * length bytes → i < length bytes → text ≡ hex_of (take i bytes) ++ drop (2 * i) old → high ∷ low ∷ [] ≡ hex_byte (get_or bytes i 0) → set (set text (2 * i) high) (2 * i + 1) low ≡ hex_of (take (i + 1) bytes) ++ drop (2 * (i + 1)) old
hex_more old text bytes i high low l h is pair =
    let front = hex_of (take i bytes) in
    let n : length (hex_of (take i bytes)) ≡ 2 * i = length-hex_of (take i bytes) ∙ search (rules, places) in
    let d1 = drop_more old (2 * i) 0 (omega arith) in
    let d2 = drop_more old (2 * i + 1) 0 (omega arith) in
    let at : 2 * i + 1 + 1 ≡ 2 * (i + 1) = omega arith in
    let rest = drop (2 * (i + 1)) old in
    let e : drop (2 * i) old ≡ get_or old (2 * i) 0 ∷ (get_or old (2 * i + 1) 0 ∷ rest) =
    d1 ∙ ap (λ (zs : List ℕ). get_or old (2 * i) 0 ∷ zs) (d2 ∙ ap (λ (k : ℕ). get_or old (2 * i + 1) 0 ∷ drop k old) at) in
    ap (λ (zs : List ℕ). set (set zs (2 * i) high) (2 * i + 1) low) (is ∙ ap (λ (zs : List ℕ). front ++ zs) e)
    ∙ pair_set front rest (get_or old (2 * i) 0) (get_or old (2 * i + 1) 0) high low (2 * i) n
    ∙ ap (λ (zs : List ℕ). front ++ (zs ++ rest)) pair
    ∙ sym (append_assoc front (hex_byte (get_or bytes i 0)) rest)
    ∙ ap (λ (zs : List ℕ). zs ++ rest) (sym (ap hex_of (take_more bytes i 0 h) ∙ hex_of-append (take i bytes) (get_or bytes i 0 ∷ [])))
