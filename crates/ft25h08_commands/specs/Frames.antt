-- The parts of a frame, and the command that it gives.
use Rattle.std.specs.Prelude.{ℕ, ◌+◌, ◌*◌, Bool, false, cond, ◌||◌, List, [], ◌∷◌, drop, ◌==◌}
use Rattle.ft25h08_commands.specs.declared.command.EraseSize.{EraseSize}
use Rattle.ft25h08_commands.specs.declared.command.EraseSize.TheVariants.{Sector, Block32, Block64}
use Rattle.ft25h08_commands.specs.declared.command.Command.{Command}
use Rattle.ft25h08_commands.specs.declared.command.Command.TheVariants.{WriteEnable, WriteDisable, DeepPowerDown, Release, ReadStatusLow, ReadStatusHigh, Read, FastRead, ReadSecurity, WriteStatus, Program, ProgramSecurity, Erase, EraseChip, EraseSecurity, Unlisted}

-- the code is one of these
abbrev pub among : ℕ → List ℕ → Bool
among c [] = false
among c (x ∷ xs) = c == x || among c xs

-- the codes that start a change
abbrev pub change_codes : List ℕ
change_codes = 0x01 ∷ 0x02 ∷ 0x32 ∷ 0x20 ∷ 0x52 ∷ 0xD8 ∷ 0x60 ∷ 0xC7 ∷ 0x42 ∷ 0x44 ∷ []

-- the codes that use all four lines
abbrev pub quad_codes : List ℕ
quad_codes = 0x6B ∷ 0x32 ∷ []

-- the codes whose address is one of the security registers'
abbrev pub security_codes : List ℕ
security_codes = 0x42 ∷ 0x48 ∷ []

-- the codes that show the status
abbrev pub status_codes : List ℕ
status_codes = 0x05 ∷ 0x35 ∷ []

-- the codes that erase the whole array
abbrev pub chip_codes : List ℕ
chip_codes = 0x60 ∷ 0xC7 ∷ []

-- how many bytes an erase covers
abbrev pub region_length : EraseSize → ℕ
region_length Sector = 4096
region_length Block32 = 32768
region_length Block64 = 65536

-- how many array bytes a code changes around its address: a page, a sector or a block; 0 for any other code
abbrev pub region_of : ℕ → ℕ
region_of c =
    cond (among c (0x02 ∷ 0x32 ∷ [])) 256
    (cond (c == 0x20) 4096
    (cond (c == 0x52) 32768
    (cond (c == 0xD8) 65536 0)))

-- the high byte comes first
abbrev pub address_of : ℕ → ℕ → ℕ → ℕ
address_of high middle low = high * 65536 + middle * 256 + low

-- the first byte is the code
abbrev pub code_in : List ℕ → ℕ
code_in [] = 0
code_in (c ∷ rest) = c

-- the next three are the address; 0 where they are not all there
abbrev pub address_in : List ℕ → ℕ
address_in [] = 0
address_in (c ∷ []) = 0
address_in (c ∷ high ∷ []) = 0
address_in (c ∷ high ∷ middle ∷ []) = 0
address_in (c ∷ high ∷ middle ∷ low ∷ rest) = address_of high middle low

-- the rest is data
abbrev pub data_in : List ℕ → List ℕ
data_in frame = drop 4 frame

-- the status bytes of a frame of 01: a missing second byte counts as 00
abbrev pub status_in : List ℕ → Command
status_in [] = Unlisted
status_in (c ∷ []) = Unlisted
status_in (c ∷ low ∷ []) = WriteStatus low 0
status_in (c ∷ low ∷ high ∷ rest) = WriteStatus low high

-- the command of a code, at an address, where a frame of 01 gives status
abbrev pub command_of : ℕ → ℕ → Command → Command
command_of c at status =
    cond (c == 0x06) WriteEnable
    (cond (c == 0x04) WriteDisable
    (cond (c == 0xB9) DeepPowerDown
    (cond (c == 0xAB) Release
    (cond (c == 0x05) ReadStatusLow
    (cond (c == 0x35) ReadStatusHigh
    (cond (c == 0x03) (Read at)
    (cond (among c (0x0B ∷ 0x3B ∷ 0x6B ∷ [])) (FastRead at)
    (cond (c == 0x48) (ReadSecurity at)
    (cond (c == 0x01) status
    (cond (among c (0x02 ∷ 0x32 ∷ [])) (Program at)
    (cond (c == 0x42) (ProgramSecurity at)
    (cond (c == 0x20) (Erase at Sector)
    (cond (c == 0x52) (Erase at Block32)
    (cond (c == 0xD8) (Erase at Block64)
    (cond (among c (0x60 ∷ 0xC7 ∷ [])) EraseChip
    (cond (c == 0x44) EraseSecurity
    Unlisted))))))))))))))))

abbrev pub command_in : List ℕ → Command
command_in frame = command_of (code_in frame) (address_in frame) (status_in frame)
