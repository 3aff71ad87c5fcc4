-- What the length of an array allows.
use Rattle.std.proofs.Common.{◌≡◌, ℕ, ◌%◌, ◌<◌, ◌≤◌, true, arith}
use Rattle.std.proofs.lemmas.Bool.Decides.{nat_tests}
use Rattle.ft25h08_commands.specs.Sizes.{is_capacity}

pub capacity_some : (n : ℕ) → is_capacity n ≡ true → 0 < n
capacity_some n h = grind (arith, nat_tests)

pub capacity_most : (n : ℕ) → is_capacity n ≡ true → n ≤ 1048576
capacity_most n h = grind (arith, nat_tests)

pub capacity_whole : (n : ℕ) → is_capacity n ≡ true → n % 65536 ≡ 0
capacity_whole n h = grind (arith, nat_tests)
