use Rattle.std.proofs.lemmas.Result.{IfOk-weaker}
use Rattle.images.specs.Subjects.{blank}
use Rattle.images.proofs.subjects.blank_bytes.Goals as goal

pub returns : goal.returns
unfolding blank
returns c = IfOk-weaker c.vec.result _ _ (λ v is. is (λ y h. h)) c.vec.ensures.items_if_clones_equal
