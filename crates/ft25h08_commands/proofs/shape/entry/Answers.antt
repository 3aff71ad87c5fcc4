use Rattle.std.proofs.Common.{ℕ, ◌*◌, ◌/◌, ◌%◌, List, [], map, get_or, None, Option, ap, ◌∙◌, arith}
use Rattle.std.specs.List.{range_with_len}
use Rattle.std.proofs.lemmas.List.FromFn.{get_or-map-range_with_len}
use Rattle.ft25h08_commands.specs.Shapes.{shape_of}
use Rattle.ft25h08_commands.specs.declared.shape.Shape.{Shape}
use Rattle.ft25h08_commands.proofs.shape.entry.Goals as goal

-- the row, then the entry in the row
pub returns : goal.returns
returns c =
    let code = c.args.code in
    ap (λ (rows : List (List (Option Shape))). get_or (get_or rows (code / 16) []) (code % 16) None) c.requires
    ∙ ap (λ (row : List (Option Shape)). get_or row (code % 16) None)
    (get_or-map-range_with_len (λ (r : ℕ). map shape_of (range_with_len (r * 16) 16)) 0 16 (code / 16) (code / 16) [] (omega arith) (omega arith))
    ∙ get_or-map-range_with_len shape_of (code / 16 * 16) 16 (code % 16) code None (omega arith) (omega arith)
