-- Which words are names, and which are places in a source.
use Rattle.std.specs.{Prelude.{ℕ, ◌==◌, ◌||◌, ◌&&◌, not, Bool, List, length, nat_le, codes}, List.list_all}
use Rattle.std.specs.{Str.bytes_eq, Char.is_ascii_alphanumeric}
use Rattle.race_records.specs.declared.name.TheConstants.{MAX_NAME_LEN, MAX_PLACE_LEN}

-- the word `main`, which names goroutine 0
abbrev pub main : List ℕ
main = codes "main"

-- an ASCII letter, a digit or `_`
abbrev pub is_name_byte : ℕ → Bool
is_name_byte byte = is_ascii_alphanumeric byte || byte == 95

-- a name: 1 to 64 letters, digits and `_`, and not `nil`
abbrev pub is_name : List ℕ → Bool
is_name word =
    not (length word == 0) && nat_le (length word) MAX_NAME_LEN
    && not (bytes_eq word (codes "nil")) && list_all is_name_byte word

-- a byte that can be seen: 0x21 to 0x7E
abbrev pub is_place_byte : ℕ → Bool
is_place_byte byte = nat_le 33 byte && nat_le byte 126

-- a place: 1 to 128 bytes that can be seen
abbrev pub is_place : List ℕ → Bool
is_place word = not (length word == 0) && nat_le (length word) MAX_PLACE_LEN && list_all is_place_byte word
