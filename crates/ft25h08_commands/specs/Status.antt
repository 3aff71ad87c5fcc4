-- The status register: which bit is where, and what a status write takes.
use Rattle.std.specs.Prelude.{ℕ, ◌+◌, ◌*◌, ◌/◌, ◌%◌, ◌^◌, Bool, false, cond, ◌||◌, ◌==◌}
use Rattle.ft25h08_commands.specs.declared.settings.Settings.{Settings}

-- a newborn chip's settings
abbrev pub cleared : Settings
cleared = record { bp0 = false; bp1 = false; bp2 = false; bp3 = false; srp = false; qe = false; lb = false; cmp = false }

-- a flag as bit k of a number
abbrev pub bit : ℕ → Bool → ℕ
bit k b = cond b (2 ^ k) 0

-- whether bit k of a number is 1
abbrev pub is_set : ℕ → ℕ → Bool
is_set k n = (n / 2 ^ k) % 2 == 1

-- S7 to S0: SRP is S7, BP3 to BP0 are S5 to S2, WEL is S1, WIP is S0; S6 is 0
abbrev pub low_byte : Settings → Bool → Bool → ℕ
low_byte s wel wip = bit 0 wip + bit 1 wel + bit 2 s.bp0 + bit 3 s.bp1 + bit 4 s.bp2 + bit 5 s.bp3 + bit 7 s.srp

-- S15 to S8: CMP is S14, LB is S10, QE is S9; the others are 0
abbrev pub high_byte : Settings → ℕ
high_byte s = bit 1 s.qe + bit 2 s.lb + bit 6 s.cmp

-- S15 to S0
abbrev pub status_word : Settings → Bool → Bool → ℕ
status_word s wel wip = low_byte s wel wip + high_byte s * 256

-- what a status write makes of the settings: BP, SRP, QE and CMP are taken from the two bytes, and LB once set
-- stays set. A missing second byte counts as 00, which clears QE and CMP and leaves LB.
abbrev pub written : Settings → ℕ → ℕ → Settings
written old low high =
    record {
      bp0 = is_set 2 low;
      bp1 = is_set 3 low;
      bp2 = is_set 4 low;
      bp3 = is_set 5 low;
      srp = is_set 7 low;
      qe = is_set 1 high;
      lb = old.lb || is_set 2 high;
      cmp = is_set 6 high;
    }

-- the row of the protection table: CMP, BP3, BP2, BP1, BP0 as a number of five bits
abbrev pub row_number : Settings → ℕ
row_number s = bit 4 s.cmp + bit 3 s.bp3 + bit 2 s.bp2 + bit 1 s.bp1 + bit 0 s.bp0

-- BP or CMP is not 0
abbrev pub protects_some : Settings → Bool
protects_some s = s.bp0 || s.bp1 || s.bp2 || s.bp3 || s.cmp
