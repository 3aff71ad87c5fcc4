-- One security register changes: what that makes of the 1,024 bytes.
use Rattle.std.proofs.Common.{◌≡◌, ℕ, ◌+◌, ◌-◌, ◌*◌, ◌/◌, ◌%◌, ◌<◌, ◌≤◌, List, length, get_or, set, sym, ap, ◌∙◌, inl, inr, arith}
use borrow.Rule.Slice.PartMut.{put_mid}
use Rattle.std.proofs.lemmas.List.{get_or_default, get_or-set_same, get_or-set_other}
use Rattle.std.proofs.lemmas.Bool.{cases_eq, cases_lt}
use Rattle.std.proofs.lemmas.Bool.Decides.{nat_tests}
use Rattle.cells.specs.Bytes.{changed, changed_at}
use Rattle.cells.proofs.Ranges.{length-counted, get_or-counted, get_or-changed, changed_all, changed_inside, changed_past, changed_join}
use Rattle.cells.proofs.Stretches.{before_stretch, inside_stretch, length_stretch}
use Rattle.ft25h08.specs.Registers.{security_of, register_byte, security_byte, no_register}
use Rattle.ft25h08.specs.Queries.{byte_at}
use Rattle.ft25h08.specs.declared.register.Register.{Register}
use Rattle.ft25h08.specs.declared.security.Security.{Security}

pub length_security : (s : Security) → length (security_of s) ≡ 1024
unfolding security_of
length_security s = length-counted (register_byte s) 1024

pub get_or_security : (s : Security) (a : ℕ) → a < 1024 → get_or (security_of s) a 0 ≡ register_byte s a
unfolding security_of
get_or_security s a h = get_or-counted (register_byte s) 1024 a h

-- the register changes by the rule h, which is g at the register's security addresses
pub register_changed : (rs : List Register) (r : ℕ) (d new : Register) (h g : ℕ → ℕ → ℕ) → length rs ≡ 4 → r < 4 → new.bytes ≡ changed 0 256 h (get_or rs r d).bytes → ((j old : ℕ) → j < 256 → h j old ≡ g (r * 256 + j) old) → security_of (record { registers = set rs r new }) ≡ changed (r * 256) 256 g (security_of (record { registers = rs }))
register_changed rs r d new h g four lt is fits =
    let before : Security = record { registers = rs } in
    let after : Security = record { registers = set rs r new } in
    let old = get_or rs r no_register in
    let whole = old.whole in
    let l = length_security before in
    changed_all (r * 256) 256 g (security_of before) (security_of after) (length_security after ∙ sym l)
    (λ a k.
    let b : a < 1024 = omega arith in
    let e1 : get_or (security_of after) a 0 ≡ get_or (get_or (set rs r new) (a / 256) no_register).bytes (a % 256) 0 = get_or_security after a b in
    let e2 : get_or (security_of before) a 0 ≡ get_or (get_or rs (a / 256) no_register).bytes (a % 256) 0 = get_or_security before a b in
    elim (cases_eq (a / 256) r) [
      | inl q ↦
          let s : get_or (set rs r new) (a / 256) no_register ≡ new = ap (λ (m : ℕ). get_or (set rs r new) m no_register) q ∙ get_or-set_same rs r new no_register (omega arith) in
          let o : get_or rs r d ≡ old = get_or_default rs r d no_register (omega arith) in
          let i : new.bytes ≡ changed 0 256 h old.bytes = is ∙ ap (λ (x : Register). changed 0 256 h x.bytes) o in
          let t : get_or new.bytes (a % 256) 0 ≡ changed_at 0 256 h old.bytes (a % 256) = ap (λ (zs : List ℕ). get_or zs (a % 256) 0) i ∙ get_or-changed 0 256 h old.bytes (a % 256) (omega arith) in
          let u = changed_inside 0 256 h old.bytes (a % 256) (omega arith) (omega arith) in
          let v : r * 256 + a % 256 ≡ a = omega arith in
          let w = fits (a % 256) (get_or old.bytes (a % 256) 0) (omega arith) in
          let x = changed_inside (r * 256) 256 g (security_of before) a (omega arith) (omega arith) in
          let y = ap (λ (zs : Register). get_or zs.bytes (a % 256) 0) s in
          let z = ap (λ (m : ℕ). get_or (get_or rs m no_register).bytes (a % 256) 0) q in
          cc
      | inr n ↦
          let s = get_or-set_other rs r (a / 256) new no_register n in
          let y = ap (λ (zs : Register). get_or zs.bytes (a % 256) 0) s in
          let x : changed_at (r * 256) 256 g (security_of before) a ≡ get_or (security_of before) a 0 = grind (arith, nat_tests) in
          cc
    ])

-- the same where the registers before r are changed already
pub next_changed : (first rs : List Register) (r : ℕ) (d new : Register) (h g : ℕ → ℕ → ℕ) → length rs ≡ 4 → r < 4 → new.bytes ≡ changed 0 256 h (get_or rs r d).bytes → ((j old : ℕ) → j < 256 → h j old ≡ g (r * 256 + j) old) → security_of (record { registers = rs }) ≡ changed 0 (r * 256) g (security_of (record { registers = first })) → security_of (record { registers = set rs r new }) ≡ changed 0 ((r + 1) * 256) g (security_of (record { registers = first }))
next_changed first rs r d new h g four lt is fits before =
    register_changed rs r d new h g four lt is fits
    ∙ ap (λ (xs : List ℕ). changed (r * 256) 256 g xs) before
    ∙ changed_join 0 (r * 256) 256 (r * 256) ((r + 1) * 256) g (security_of (record { registers = first })) (omega arith) (omega arith)

-- there is no fifth register: a change there changes nothing
pub no_fifth_register : (s : Security) (r : ℕ) (g : ℕ → ℕ → ℕ) → 4 ≤ r → security_of s ≡ changed (r * 256) 256 g (security_of s)
no_fifth_register s r g h = changed_past (r * 256) 256 g (security_of s) (omega (arith, length_security s))

-- the registers before r are copied, and r is the next
pub next_copied : (s : Security) (bytes copied : List ℕ) (r n : ℕ) (d : Register) → length s.registers ≡ 4 → r < 4 → n ≡ 256 → length bytes ≡ 1024 → copied ≡ (get_or s.registers r d).bytes → ((k : ℕ) → k < r * 256 → get_or bytes k 0 ≡ register_byte s k) → (length (put_mid (r * 256) n bytes copied) ≡ 1024) × ((k : ℕ) → k < (r + 1) * 256 → get_or (put_mid (r * 256) n bytes copied) k 0 ≡ register_byte s k)
next_copied s bytes copied r n d four lt whole long is before =
    let old = get_or s.registers r no_register in
    let same : copied ≡ old.bytes = is ∙ ap (λ (x : Register). x.bytes) (get_or_default s.registers r d no_register (omega arith)) in
    let l : length copied ≡ n = ap length same ∙ old.whole ∙ sym whole in (
      length_stretch (r * 256) n bytes copied (omega arith) l ∙ long,
      λ k h.
          elim (cases_lt k (r * 256)) [
            | inl lower ↦ before_stretch (r * 256) n bytes copied k (omega arith) l lower ∙ before k lower
            | inr ge ↦
                let q : r ≡ k / 256 = omega arith in
                let m : k - r * 256 ≡ k % 256 = omega arith in
                inside_stretch (r * 256) n bytes copied k (omega arith) l ge (omega arith)
                ∙ ap (λ (xs : List ℕ). get_or xs (k - r * 256) 0) same
                ∙ ap (λ (i : ℕ). get_or old.bytes i 0) m
                ∙ ap (λ (i : ℕ). get_or (get_or s.registers i no_register).bytes (k % 256) 0) q
          ],
    )

-- the byte by its register is the byte by its address
pub security_byte_lem : (s : Security) (a : ℕ) → security_byte s a ≡ byte_at (security_of s) a
security_byte_lem s a =
    let l = length_security s in
    elim (cases_lt a 1024) [
      | inl lt ↦ let e = get_or_security s a lt in grind (arith, nat_tests)
      | inr ge ↦ grind (arith, nat_tests)
    ]
