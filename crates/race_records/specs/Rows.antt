-- The declarations that the table of names tells.
use Rattle.std.specs.Prelude.{List, map}
use Rattle.race_records.specs.{Declarations.Declaration, Tables.Row}

-- the declaration that a row of the table of names tells
abbrev pub declaration_of : Row → Declaration
declaration_of row = record { name = row.name; object = row.slot.object }

-- the declarations that the table of names tells
abbrev pub declarations_of : List Row → List Declaration
declarations_of names = map declaration_of names
