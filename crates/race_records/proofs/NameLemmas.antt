-- The table of names: what its entries say as rows.
use Rattle.std.proofs.Common.{◌≡◌, ℕ, Bool, true, false, cond, ◌||◌, List, [], ◌∷◌, ◌++◌, map, position, slice_get}
use Rattle.std.proofs.Common.{String, Option, Some, None, IsNone, option_map, refl, sym, ap, subst, ◌∙◌, true≢false}
use Rattle.std.proofs.lemmas.{List.map-append, Option.{slice_get-map, none-some, same_Some}}
use Rattle.std.specs.{List.{list_any, AllZip}, Str.bytes_eq, String.{string_bytes, string_eq}}
use Rattle.indexmap.specs.IndexMap.{insert_entry}
use Rattle.race_records.specs.{declared.names.Slot.Slot, Declarations.Declaration}
use Rattle.race_records.specs.{Rows.{declaration_of, declarations_of}, Tables.{Row, row}}
use Rattle.race_records.proofs.TextLemmas.{position-map, list_any-absent}

module _ {Z : Type 0} where
  -- the entry as a row
  abbrev pub row_of : String Z × Slot → Row
  row_of e = row (string_bytes e.0) e.1

  insert_entry-absent : (es : List (String Z × Slot)) (k : String Z) (s : Slot) → list_any (λ (e : String Z × Slot). string_eq k e.0) es ≡ false
      → insert_entry string_eq es k s ≡ es ++ (k, s) ∷ []
  insert_entry-absent [] k s h = refl
  insert_entry-absent (e ∷ es) k s h = by (string_eq k e.0) h (insert_entry-absent es k s)
    where
      by : (b : Bool) → (b || list_any (λ (d : String Z × Slot). string_eq k d.0) es) ≡ false
          → (list_any (λ (d : String Z × Slot). string_eq k d.0) es ≡ false → insert_entry string_eq es k s ≡ es ++ (k, s) ∷ [])
          → cond b ((e.0, s) ∷ es) (e ∷ insert_entry string_eq es k s) ≡ e ∷ es ++ (k, s) ∷ []
      by true h rest = absurd (true≢false h)
      by false h rest = ap (λ l. e ∷ l) (rest h)

  -- clones have the rows of their sources
  pub rows-clones : (es fs : List (String Z × Slot)) → AllZip (λ (p q : String Z × Slot). (string_bytes q.0 ≡ string_bytes p.0) × (q.1 ≡ p.1)) es fs
      → map row_of fs ≡ map row_of es
  rows-clones [] [] h = refl
  rows-clones [] (f ∷ fs) h = absurd h
  rows-clones (e ∷ es) [] h = absurd h
  rows-clones (e ∷ es) (f ∷ fs) h = λ i. row (h.0.0 i) (h.0.1 i) ∷ rows-clones es fs h.1 i

module _ {Z : Type 0} (es : List (String Z × Slot)) (rows : List Row) (view_is : map row_of es ≡ rows) where
  -- the row at an index is that of its entry
  pub slice_get-rows : (i : ℕ) (k : String Z) (s : Slot) → slice_get es i ≡ Some (k, s) → slice_get rows i ≡ Some (row (string_bytes k) s)
  slice_get-rows i k s at = (λ j. slice_get (sym view_is j) i) ∙ slice_get-map row_of es i ∙ ap (option_map row_of) at

  -- a name that is new to the table goes last
  pub insert_entry-new : (k : String Z) (s : Slot) (name : List ℕ) → string_bytes k ≡ name → IsNone (position (λ (r : Row). bytes_eq name r.name) rows)
      → map row_of (insert_entry string_eq es k s) ≡ rows ++ row name s ∷ []
  insert_entry-new k s name e none =
      let found : position (λ (r : Row). bytes_eq name r.name) rows ≡ position (λ (d : String Z × Slot). string_eq k d.0) es =
      (λ i. position (λ (r : Row). bytes_eq (sym e i) r.name) (sym view_is i)) ∙ position-map row_of (λ (r : Row). bytes_eq (string_bytes k) r.name) es in
      let absent = list_any-absent (λ (d : String Z × Slot). string_eq k d.0) es (subst IsNone found none) in
      ap (map row_of) (insert_entry-absent es k s absent) ∙ map-append row_of es ((k, s) ∷ []) ∙ (λ i. view_is i ++ row (e i) s ∷ [])

-- what a row's parts say of the declaration at its index
pub declaration_at : (rows : List Row) (i : ℕ) (name : List ℕ) (slot : Slot) → option_map (λ (r : Row). r.name) (slice_get rows i) ≡ Some name
    → option_map (λ (r : Row). r.slot) (slice_get rows i) ≡ Some slot
    → slice_get (declarations_of rows) i ≡ Some (record { name = name; object = slot.object })
declaration_at rows i name slot named holds = slice_get-map declaration_of rows i ∙ by (slice_get rows i) named holds
  where
    by : (o : Option Row) → option_map (λ (r : Row). r.name) o ≡ Some name → option_map (λ (r : Row). r.slot) o ≡ Some slot
        → option_map declaration_of o ≡ Some (record { name = name; object = slot.object })
    by None n s = absurd (none-some _ n)
    by (Some r) n s = let e = same_Some r.name name n in let f = same_Some r.slot slot s in λ j. Some (record { name = e j; object = (f j).object })

pub name_at : (rows : List Row) (i : ℕ) (name : List ℕ) → option_map (λ (r : Row). r.name) (slice_get rows i) ≡ Some name
    → option_map (λ (d : Declaration). d.name) (slice_get (declarations_of rows) i) ≡ Some name
name_at rows i name named = ap (option_map (λ (d : Declaration). d.name)) (slice_get-map declaration_of rows i) ∙ by (slice_get rows i) named
  where
    by : (o : Option Row) → option_map (λ (r : Row). r.name) o ≡ Some name → option_map (λ (d : Declaration). d.name) (option_map declaration_of o) ≡ Some name
    by None n = n
    by (Some r) n = n
