-- The judge's tables are right, one event on.
use Rattle.std.proofs.Common.{◌≡◌, ◌↔◌, ℕ, ◌+◌, ◌<◌, ◌≤◌, Bool, true, false, List, [], ◌∷◌, ◌++◌, length, take}
use Rattle.std.proofs.Common.{replicate}
use Rattle.std.proofs.Common.{Option, Some, None, IfSome, is_some, if◌then◌else◌, IsTrue, slice_get, slice_set, refl}
use Rattle.std.proofs.{Common.{sym, ◌∙◌, subst, arith}, lemmas.Option.slice_get_within}
use Rattle.std.{proofs.lemmas.List.{length-take-le, length-replicate, length-set, take_all}, specs.List.slice_index_or}
use Rattle.race_records.specs.{declared.{event.Event.Event, kind.Kind.Kind}, Declarations.{count_of, counts_of}}
use Rattle.race_records.specs.Events.{TraceState, IsTrace}
use Rattle.race_model.{specs.{Events.{At, partner}, Order.IsSource}, proofs.Indexes.take_at_old}
use Rattle.race_model.proofs.SynchronizedTests.{source_is}
use Rattle.race_legal.proofs.Fronts.{take_next}
use Rattle.race_verdict.specs.{declared.races.Race.Race, Accesses.accessed, Races.{AreFound, AreRaces, races_of}}
use Rattle.race_verdict.{specs.Traces.capacities, proofs.RangeLemmas.{range_in_trace, partner_in_range}}
use Rattle.race_verdict.proofs.{RangeLemmas.{accessed_in_range, race_declared}, RaceLists.are_races}
use Rattle.race_edges.specs.{Synchronized.source_at, TableState.{TableState, HasRows, table_after}}
use Rattle.race_edges.{specs.Partners.{HasPlace, found_after, noted, race_at}, proofs.IsTable.IsTable}
use Rattle.race_edges.proofs.{SynchronizedLemmas.source_at_is, RowLemmas.shape_after}
use Rattle.race_edges.proofs.TableSteps.{table_none, table_step}
use Rattle.race_edges.proofs.FoundSteps.{found_none, found_step}

-- what is said of the event at an index
pub said_from : (events : List Event) (i : ℕ) (e : Event) (Holds : Event → Type 0) → slice_get events i ≡ Some e → Holds e → IfSome (slice_get events i) Holds
said_from events i e Holds at holds = subst (λ o. IfSome o Holds) (sym at) holds

-- who takes part in an event of a trace has a row in a table with one for each goroutine
has_rows : (trace : TraceState) (i : ℕ) (e : Event) (rows : List (List Bool)) → IsTrace trace → slice_get trace.events i ≡ Some e
    → length rows ≡ count_of Kind.Goroutine trace.decls.declarations → HasRows rows e
has_rows trace i e rows holds at goroutines =
    let range = range_in_trace trace i e holds at in
    let who = range.0 in (
      omega (arith, who, goroutines),
      subst (λ n. IfSome (partner e.op) (λ g. g < n))
          (sym goroutines) (partner_in_range (counts_of trace.decls.declarations) e.op range.1),
    )

-- a variable that it accesses has a place in a list with one for each variable
has_place : (trace : TraceState) (i : ℕ) (e : Event) (found : List (Option Race)) → IsTrace trace → slice_get trace.events i ≡ Some e
    → length found ≡ count_of Kind.Var trace.decls.declarations → HasPlace found e.op
has_place trace i e found holds at vars =
    subst (λ n. IfSome (accessed e.op) (λ x. x < n)) (sym vars)
    (accessed_in_range (counts_of trace.decls.declarations) e.op (range_in_trace trace i e holds at).1)

module _ (caps : ℕ → ℕ) (events : List Event) (at : ℕ) (e : Event) (here : slice_get events at ≡ Some e)
    (table : TableState) (limit : ℕ) (is_table : IsTable caps table limit (take at events)) where
  long : length (take at events) ≡ at
  long = let less : at < length events = slice_get_within events at e here in length-take-le at events (omega arith)

  -- the sources of the event at the index are those of the next event of the front before it
  sources : (k : ℕ) (s : Event) → At (take at events) k s → IsTrue (source_at caps events k at) ↔ IsSource caps (take at events) k s.op e.op
  sources k s ats =
      let is = source_at_is caps events k at s e (take_at_old at events k s ats) here in
      let source = source_is caps (take at events) k s.op e.op in
      ((λ t. source.0 (sym is ∙ t)), (λ t. is ∙ source.1 t))

  -- the table behind the event at an index
  table_next : (next : TableState) → next ≡ table_after (λ k. source_at caps events k at) table at e.who e.op → at < limit → HasRows table.rows e
      → IsTable caps next limit (take (at + 1) events)
  table_next next is room rows =
      subst (λ (t : TableState). IsTable caps t limit (take (at + 1) events)) (sym is)
      (subst (IsTable caps (table_after (λ k. source_at caps events k at) table at e.who e.op) limit) (sym (take_next events at e here))
      (subst (λ n. IsTable caps (table_after (λ k. source_at caps events k at) table n e.who e.op) limit (take at events ++ e ∷ [])) long
      (table_step caps table limit (take at events) is_table e (omega (arith, room, long)) rows (λ k. source_at caps events k at) sources)))

  -- what is noted behind it
  found_next : (found next : List (Option Race)) → next ≡ found_after table.rows (take at events) (length (take at events)) e found
      → e.who < length table.rows → HasPlace found e.op
      → AreFound caps (take at events) found → AreFound caps (take (at + 1) events) next
  found_next found next is row place right =
      subst (AreFound caps (take (at + 1) events)) (sym is)
      (subst (λ es. AreFound caps es (found_after table.rows (take at events) (length (take at events)) e found)) (sym (take_next events at e here))
      (found_step caps (take at events) e table limit is_table row found right place))

found_kept : (rows : List (List Bool)) (events : List Event) (n : ℕ) (e : Event) (found : List (Option Race))
    → length (found_after rows events n e found) ≡ length found
found_kept rows events n e found = by (accessed e.op)
  where
    one : (x : ℕ) (b : Bool) → length (if b then found else slice_set found x (race_at rows events n e x)) ≡ length found
    one x true = refl
    one x false = length-set found x (race_at rows events n e x)

    by : (a : Option ℕ) → length (elim a as (λ _. List (Option Race)) [ Some x ↦ noted rows events n e x found | None ↦ found ]) ≡ length found
    by None = refl
    by (Some x) = one x (is_some (slice_index_or found x None))

-- tables that are right for the first n events, with a row for each goroutine and a place for each variable
pub record AreTables (trace : TraceState) (n : ℕ) (table : TableState) (found : List (Option Race)) : Type 0 where
  pub rows : length table.rows ≡ count_of Kind.Goroutine trace.decls.declarations
  pub vars : length found ≡ count_of Kind.Var trace.decls.declarations
  pub is_table : IsTable (capacities trace) table (length trace.events) (take n trace.events)
  pub right : AreFound (capacities trace) (take n trace.events) found

pub tables_none : (trace : TraceState) → AreTables trace 0
    (record { rows = replicate (count_of Kind.Goroutine trace.decls.declarations) (replicate (length trace.events) false); heard = [] })
    (replicate (count_of Kind.Var trace.decls.declarations) None)
tables_none trace = record {
  rows = length-replicate (count_of Kind.Goroutine trace.decls.declarations) (replicate (length trace.events) false);
  vars = length-replicate (count_of Kind.Var trace.decls.declarations) None;
  is_table = table_none (capacities trace) (count_of Kind.Goroutine trace.decls.declarations) (length trace.events);
  right = found_none (capacities trace) (count_of Kind.Var trace.decls.declarations);
}

-- the next event of the trace has its rows and its place
pub has_tables : {trace : TraceState} {n : ℕ} {table : TableState} {found : List (Option Race)} {e : Event} → IsTrace trace → AreTables trace n table found
    → slice_get trace.events n ≡ Some e → HasRows table.rows e × HasPlace found e.op
has_tables {trace} {n} {table} {found} {e} holds are here = (
  has_rows trace n e table.rows holds here are.rows,
  has_place trace n e found holds here are.vars,
)

pub tables_next : (trace : TraceState) (n : ℕ) (e : Event) (table : TableState) (found : List (Option Race)) → IsTrace trace → slice_get trace.events n ≡ Some e
    → AreTables trace n table found
    → AreTables trace (n + 1) (table_after (λ k. source_at (capacities trace) trace.events k n) table n e.who e.op)
    (found_after table.rows (take n trace.events) (length (take n trace.events)) e found)
tables_next trace n e table found holds here are =
    let (rows, place) = has_tables holds are here in
    let caps = capacities trace in record {
      rows = (shape_after (λ k. source_at caps trace.events k n) table n e.who e.op).count ∙ are.rows;
      vars = found_kept table.rows (take n trace.events) (length (take n trace.events)) e found ∙ are.vars;
      is_table = table_next caps trace.events n e here table (length trace.events) are.is_table _ refl (slice_get_within trace.events n e here) rows;
      right = found_next caps trace.events n e here table (length trace.events) are.is_table found _ refl rows.0 place are.right;
    }

-- behind the last event they tell the races of the trace
pub races_listed : (trace : TraceState) (n : ℕ) (table : TableState) (found : List (Option Race)) → IsTrace trace → AreTables trace n table found
    → length trace.events ≤ n → AreRaces (capacities trace) trace.events (races_of found)
races_listed trace n table found holds are whole =
    are_races (capacities trace) trace.events found
    (subst (λ es. AreFound (capacities trace) es found) (take_all n trace.events whole) are.right)
    (λ x i j race. let below = race_declared (capacities trace) trace x i j holds race in let vars = are.vars in omega (arith, below, vars))
