-- The tick counts of a chip.
use Rattle.std.specs.Prelude.{Bool, ◌&&◌, nat_lt}
use Rattle.ft25h08.specs.declared.ticks.Ticks.{Ticks}

-- each count is at least 1 (as 16 bits it is at most 65,535)
unfoldable pub all_count : Ticks → Bool
all_count t = nat_lt 0 t.status_write && (nat_lt 0 t.program && (nat_lt 0 t.erase_sector && (nat_lt 0 t.erase_block32 && (nat_lt 0 t.erase_block64 && nat_lt 0 t.erase_chip))))

-- on the bench a status write takes 2 ticks, a program 3, the erase of a sector 5, of 32 KiB 8, of 64 KiB 13 and of the chip 21
abbrev pub bench_ticks : Ticks
bench_ticks = record { status_write = 2; program = 3; erase_sector = 5; erase_block32 = 8; erase_block64 = 13; erase_chip = 21 }
