use Rattle.std.proofs.Common.{ℕ, List, ◌++◌, ap, ◌∙◌}
use Rattle.ft25h08.specs.State.{chip_of}
use Rattle.bench.specs.Gathered.{text_of}
use Rattle.bench.specs.Texts.{line_text}
use Rattle.bench.proofs.Answering.{line_of}
use Rattle.bench.proofs.Appending.{still_made}
use Rattle.bench.proofs.bench.play.answer_frame.Goals as goal

pub returns-clause-text : goal.returns-clause-text
returns-clause-text c =
    let t = text_of c.args.out.now in
    let buffer = c.frame-answer.new.answer in
    still_made c.push_line.result
    (λ _ e.
    e
    ∙ ap (λ (xs : List ℕ). t ++ line_text c.args.line c.number_of.result xs) c.shown.ensures
    ∙ ap (λ (xs : List ℕ). t ++ xs) (line_of c.frame-answer.result c.number_of.result (chip_of c.args.chip.now) c.args.frame.now c.args.odd c.args.buffer.now buffer c.args.line c.requires c.frame-answer.ensures.answer c.number_of.ensures c.frame-answer.ensures.driven))
    c.push_line.ensures
