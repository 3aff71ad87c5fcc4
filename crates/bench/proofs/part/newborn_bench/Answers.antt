use Rattle.bench.proofs.Appending.{still_made}
use Rattle.bench.proofs.part.newborn_bench.Goals as goal

pub returns : goal.returns
returns c = still_made c.newborn_over.result (λ b born. record { array = c.in_ok-blank_array.field-0; blank = c.in_ok-blank_array.ensures; born = born }) c.newborn_over.ensures
