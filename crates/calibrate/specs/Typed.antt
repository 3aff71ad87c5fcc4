-- The rows that typed texts name: exactly the numbers typed, or none.
use Rattle.std.specs.Prelude.{ℕ, ◌-◌, Bool, cond, ◌||◌, List, ◌++◌, length, replicate, ℤ, Some, None, Option, ◌==◌, nat_le}
use Rattle.rows.specs.Reflectors.{is_reflector, parts_of}
use Rattle.rows.specs.Temperatures.{is_temperature, numbers_of}
use Rattle.rows.specs.declared.reflector.Reflector.{Reflector}
use Rattle.rows.specs.declared.temperature.Temperature.{Temperature}

-- what is within its limits
abbrev pub in_limits : {A : Type 0} → (A → Bool) → A → Option A
in_limits limits x = cond (limits x) (Some x) None

-- the numbers of a temperature row, if both were typed and are within the limits
abbrev pub temperature_from : Option ℤ → Option ℤ → Option (ℤ × ℤ)
temperature_from None offset = None
temperature_from (Some tenths) None = None
temperature_from (Some tenths) (Some offset) = in_limits is_temperature (tenths, offset)

-- the numbers of a row that there is
abbrev pub numbers_in : Option Temperature → Option (ℤ × ℤ)
numbers_in None = None
numbers_in (Some row) = Some (numbers_of row)

-- 1 to 8 bytes, with spaces (20) behind them up to 8
abbrev pub name_from : List ℕ → Option (List ℕ)
name_from text = cond (length text == 0 || nat_le 9 (length text)) None (Some (text ++ replicate (8 - length text) 0x20))

-- the parts of a reflector row, if both were typed and are within the limits
abbrev pub reflector_from : Option (List ℕ) → Option ℤ → Option (List ℕ × ℤ)
reflector_from None offset = None
reflector_from (Some name) None = None
reflector_from (Some name) (Some offset) = in_limits is_reflector (name, offset)

-- the parts of a row that there is
abbrev pub parts_in : Option Reflector → Option (List ℕ × ℤ)
parts_in None = None
parts_in (Some row) = Some (parts_of row)
