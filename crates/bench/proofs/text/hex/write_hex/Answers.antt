use Rattle.std.proofs.Common.{ℕ, ◌*◌, ◌/◌, List, [], ◌∷◌, ◌++◌, get_or, take, ap, ◌∙◌, arith}
use Rattle.std.proofs.lemmas.List.{append-nil, take_all, drop_all}
use Rattle.bench.specs.Texts.{hex_of, hex_digit}
use Rattle.bench.proofs.Appending.{hex_more}
use Rattle.bench.proofs.text.hex.write_hex.Goals as goal

pub loop-i-preserved : goal.loop-i-preserved
loop-i-preserved c =
    let b = get_or c.args.bytes.now c.loop-i.i 0 in
    hex_more c.args.text.now c.loop-i.text c.args.bytes.now c.loop-i.i c.hex_digit.result c.hex_digit-in-loop-i.result
    c.requires (omega arith) c.loop-i.invariant
    (ap (λ (d : ℕ). d ∷ c.hex_digit-in-loop-i.result ∷ []) c.hex_digit.ensures ∙ ap (λ (d : ℕ). hex_digit (b / 16) ∷ d ∷ []) c.hex_digit-in-loop-i.ensures)

pub returns : goal.returns
returns c =
    c.loop-i.invariant
    ∙ ap (λ (zs : List ℕ). hex_of (take c.loop-i.i c.args.bytes.now) ++ zs) (drop_all (2 * c.loop-i.i) c.args.text.now (let p = c.requires in omega arith))
    ∙ append-nil (hex_of (take c.loop-i.i c.args.bytes.now))
    ∙ ap hex_of (take_all c.loop-i.i c.args.bytes.now (omega arith))
