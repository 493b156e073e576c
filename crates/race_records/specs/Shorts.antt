-- A table of short names that are found by their bytes alone: what it may say of the table of all names.
use Rattle.std.specs.Prelude.{◌≡◌, ◌<◌, ◌≤◌, ◌*◌, ℕ, max, nat_le, if◌then◌else◌, List, length, drop, get_or, All}
use Rattle.std.specs.{Prelude.{Option, Some, None}, Int.{from_le_bytes, w64}}
use Rattle.race_records.specs.{declared.shorts.{Key.Key, Short.Short}, Tables.{Row, slot_named}}

-- the first eight bytes as a number, the lowest first, 0 for each that isn't there
abbrev pub front_of : List ℕ → ℕ
front_of name = from_le_bytes w64 name

-- the eight behind them
abbrev pub back_of : List ℕ → ℕ
back_of name = from_le_bytes w64 (drop 8 name)

-- the key of a name of at most 16 bytes
abbrev pub short_key : List ℕ → Option Key
short_key name =
    if nat_le (length name) 16 then Some (record { len = length name; front = front_of name; back = back_of name }) else None

-- the key that is noted
abbrev pub key_in : Short → Key
key_in short = record { len = short.len; front = short.front; back = short.back }

abbrev pub AreBytes : List ℕ → Type 0
AreBytes name = (i : ℕ) → get_or name i 0 < 256

-- each name with that key stands in a row with that slot
abbrev pub IsNoted : List Row → Short → Type 0
IsNoted rows short = (name : List ℕ) → AreBytes name → short_key name ≡ Some (key_in short) → slot_named name rows ≡ Some short.slot

abbrev pub AreNoted : List Row → List Short → Type 0
AreNoted rows shorts = All (IsNoted rows) shorts

-- for so many noted names there are not more slots than the smallest table has, or than four for each
abbrev pub AreFew : ℕ → ℕ → Type 0
AreFew slots noted = slots ≤ max 1_024 (4 * noted)
