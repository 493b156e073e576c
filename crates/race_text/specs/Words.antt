-- Lines, their words, and the numbers among them.
use Rattle.std.specs.Prelude.{ℕ, ◌==◌, ◌&&◌, not, Bool, if◌then◌else◌, nat_le, List, [], Option, Some, None}
use Rattle.std.specs.{List.{list_any, slice_split}, Str.{bytes_eq, Parse.digits_value}, Fmt.decimal, Borrow.Bor}

-- the parts of a text: it is cut at every newline, and the last part is what stands behind the last one
abbrev pub parts_of : List ℕ → List (List ℕ)
parts_of bytes = slice_split (λ byte. byte == 10) bytes

-- the words of a line: it is cut at every space, so two spaces have an empty word between them
abbrev pub words_of : List ℕ → List (List ℕ)
words_of line = slice_split (λ byte. byte == 32) line

-- the parts of what is left, where anything is
abbrev pub parts_left : ℕ → Option (Bor (List ℕ)) → List (List ℕ)
parts_left byte None = []
parts_left byte (Some rest) = slice_split (λ b. b == byte) rest.now

-- a byte that no line may have: outside 0x20 to 0x7E
abbrev pub is_bad_byte : ℕ → Bool
is_bad_byte byte = not (nat_le 32 byte && nat_le byte 126)

-- the line has a bad byte
abbrev pub has_bad_byte : List ℕ → Bool
has_bad_byte line = list_any is_bad_byte line

-- a word is the number n where it is n's decimal text, and n is in the limit
unfoldable pub number : ℕ → List ℕ → Option ℕ
number limit word =
    let n = digits_value 10 word in
    if bytes_eq word (decimal n) && nat_le n limit then Some n else None
