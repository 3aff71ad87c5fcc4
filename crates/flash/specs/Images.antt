-- What an image in memory means.
use Rattle.std.specs.Prelude.{◌≤◌, length, vec_items}
use Rattle.std.proofs.Common.{arith}
use Rattle.flash.specs.Meaning.{Meaning}
use Rattle.flash.specs.Pendings.{meaning_of}
use Rattle.flash.specs.declared.image.Image.{Image}

abbrev pub image_meaning : Image → Meaning
image_meaning im = meaning_of im.pending (vec_items im.bytes) (vec_items im.marks) im.tallies.programs im.tallies.erases

-- at most 256 sectors
pub image_most : (im : Image) → length (vec_items im.bytes) ≤ 1048576
image_most im = let a = im.bytes.ok.0 in let b = im.whole in let c = im.most in omega arith
