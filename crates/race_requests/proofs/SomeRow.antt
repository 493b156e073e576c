-- A row, by an answer of the table.
use Rattle.std.proofs.Common.{◌≡◌, ℕ, true, Option, Some, None, is_some, sym}
use Rattle.race_records.specs.declared.event.Op.{Op}
use Rattle.race_requests.specs.{declared.request.{Answer.Answer, Ask.Ask}, Table.{IsRow, told_at}}

-- where there is an answer there is a row
pub some_row : (ask : Ask) (k : ℕ) (op : Op) (row : Option (Option Answer)) → row ≡ told_at ask k op → is_some row ≡ true
    → (k : ℕ) × (told : Option Answer) × IsRow ask k op told
some_row ask k op None row is = absurd cc
some_row ask k op (Some told) row is = (k, told, sym row)
