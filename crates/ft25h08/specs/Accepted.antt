-- What an accepted frame does, and what the chip drives meanwhile.
use Rattle.std.specs.Prelude.{ℕ, ◌/◌, ◌%◌, true, false, List, length}
use Rattle.cells.specs.Driven.{silent, repeated, read_out}
use Rattle.cells.specs.Latch.{latched}
use Rattle.ft25h08_commands.specs.Frames.{data_in, region_length}
use Rattle.ft25h08_commands.specs.Rules.{start_of}
use Rattle.ft25h08_commands.specs.Status.{written, low_byte, high_byte}
use Rattle.ft25h08_commands.specs.declared.command.Command.{Command}
use Rattle.ft25h08_commands.specs.declared.command.Command.TheVariants as cmd
use Rattle.ft25h08_commands.specs.declared.command.EraseSize.{EraseSize}
use Rattle.ft25h08_commands.specs.declared.command.EraseSize.TheVariants.{Sector, Block32, Block64}
use Rattle.ft25h08.specs.Chip.{Chip, with_enable, with_activity}
use Rattle.ft25h08.specs.Queries.{busy_in}
use Rattle.ft25h08.specs.declared.activity.Activity.{Activity}
use Rattle.ft25h08.specs.declared.activity.Activity.TheVariants.{Idle, Asleep, Changing}
use Rattle.ft25h08.specs.declared.activity.Change.{Change}
use Rattle.ft25h08.specs.declared.activity.Change.TheVariants as change
use Rattle.ft25h08.specs.declared.ticks.Ticks.{Ticks}

-- how long an erase takes
abbrev pub erase_ticks : Ticks → EraseSize → ℕ
erase_ticks t Sector = t.erase_sector
erase_ticks t Block32 = t.erase_block32
erase_ticks t Block64 = t.erase_block64

-- the change starts; nothing else happens yet
abbrev pub starts : Change → ℕ → Chip → Chip
starts ch left c = with_activity (Changing ch left) c

-- the program of the page that holds the address
abbrev pub page_program : ℕ → List ℕ → Chip → Change
page_program at frame c = change.Program (start_of (at % length c.array) 256) (latched at (data_in frame))

-- the erase of the sector or block that holds the address
abbrev pub region_erase : ℕ → EraseSize → Chip → Change
region_erase at size c = change.Erase (start_of (at % length c.array) (region_length size)) (region_length size)

-- an idle chip
abbrev pub from_idle : Command → List ℕ → Chip → Chip
from_idle cmd.WriteEnable frame c = with_enable true c
from_idle cmd.WriteDisable frame c = with_enable false c
from_idle cmd.DeepPowerDown frame c = with_activity Asleep c
from_idle cmd.Release frame c = with_activity Idle c
from_idle cmd.ReadStatusLow frame c = c
from_idle cmd.ReadStatusHigh frame c = c
from_idle (cmd.Read at) frame c = c
from_idle (cmd.FastRead at) frame c = c
from_idle (cmd.ReadSecurity at) frame c = c
from_idle (cmd.WriteStatus low high) frame c = starts (change.WriteStatus (written c.settings low high)) c.ticks.status_write c
from_idle (cmd.Program at) frame c = starts (page_program at frame c) c.ticks.program c
from_idle (cmd.ProgramSecurity at) frame c = starts (change.ProgramSecurity (at / 256) (latched at (data_in frame))) c.ticks.program c
from_idle (cmd.Erase at size) frame c = starts (region_erase at size c) (erase_ticks c.ticks size) c
from_idle cmd.EraseChip frame c = starts (change.Erase 0 (length c.array)) c.ticks.erase_chip c
from_idle cmd.EraseSecurity frame c = starts change.EraseSecurity c.ticks.erase_sector c
from_idle cmd.Unlisted frame c = c

-- a sleeping chip hears only its release
abbrev pub from_sleep : Command → Chip → Chip
from_sleep cmd.WriteEnable c = c
from_sleep cmd.WriteDisable c = c
from_sleep cmd.DeepPowerDown c = c
from_sleep cmd.Release c = with_activity Idle c
from_sleep cmd.ReadStatusLow c = c
from_sleep cmd.ReadStatusHigh c = c
from_sleep (cmd.Read at) c = c
from_sleep (cmd.FastRead at) c = c
from_sleep (cmd.ReadSecurity at) c = c
from_sleep (cmd.WriteStatus low high) c = c
from_sleep (cmd.Program at) c = c
from_sleep (cmd.ProgramSecurity at) c = c
from_sleep (cmd.Erase at size) c = c
from_sleep cmd.EraseChip c = c
from_sleep cmd.EraseSecurity c = c
from_sleep cmd.Unlisted c = c

-- a busy chip only shows its status
abbrev pub acted_from : Activity → Command → List ℕ → Chip → Chip
acted_from Idle command frame c = from_idle command frame c
acted_from Asleep command frame c = from_sleep command c
acted_from (Changing ch left) command frame c = c

abbrev pub acted : Command → List ℕ → Chip → Chip
acted command frame c = acted_from c.activity command frame c

-- what the chip drives at each byte of the frame
abbrev pub driven_by : Command → Chip → ℕ → ℕ
driven_by cmd.WriteEnable c = silent
driven_by cmd.WriteDisable c = silent
driven_by cmd.DeepPowerDown c = silent
driven_by cmd.Release c = silent
driven_by cmd.ReadStatusLow c = repeated (low_byte c.settings c.enabled (busy_in c))
driven_by cmd.ReadStatusHigh c = repeated (high_byte c.settings)
driven_by (cmd.Read at) c = read_out c.array at 4
driven_by (cmd.FastRead at) c = read_out c.array at 5
driven_by (cmd.ReadSecurity at) c = read_out c.security at 5
driven_by (cmd.WriteStatus low high) c = silent
driven_by (cmd.Program at) c = silent
driven_by (cmd.ProgramSecurity at) c = silent
driven_by (cmd.Erase at size) c = silent
driven_by cmd.EraseChip c = silent
driven_by cmd.EraseSecurity c = silent
driven_by cmd.Unlisted c = silent
