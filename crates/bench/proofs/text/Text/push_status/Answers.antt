use Rattle.std.proofs.Common.{◌≡◌, ℕ, ◌/◌, ◌%◌, List, [], ◌∷◌, ◌++◌, codes, ap, ◌∙◌, arith}
use Rattle.bench.specs.Gathered.{text_of}
use Rattle.bench.specs.Texts.{hex_of, hex_word}
use Rattle.bench.proofs.Appending.{still_made, then}
use Rattle.bench.proofs.text.Text.push_status.Goals as goal

pub returns : goal.returns
returns c =
    let t = text_of c.args.self.now in
    let fits = c.ranges.status.fits in
    let high : c.args.status / 256 % 256 ≡ c.args.status / 256 = omega arith in
    let bytes : c.to_be_bytes.result ≡ c.args.status / 256 ∷ c.args.status % 256 ∷ [] = c.to_be_bytes.ensures ∙ ap (λ (h : ℕ). h ∷ c.args.status % 256 ∷ []) high in
    let e1 = then t (codes "status ") (hex_word c.args.status) c.in_ok-push_bytes.ensures (c.in_ok-push_hex.ensures ∙ ap (λ (xs : List ℕ). text_of c.push_bytes.new.self ++ hex_of xs) bytes) in
    still_made c.push.result (λ _ e. then t (codes "status " ++ hex_word c.args.status) (codes "\n") e1 e) c.push.ensures
