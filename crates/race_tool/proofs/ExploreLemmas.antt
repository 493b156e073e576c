-- What the status says of all runs of a program.
use Rattle.std.proofs.Common.{ℕ, ◌≡◌, zero, suc, ◌+◌, ◌<◌, ◌≤◌, ◌||◌, not, cond, nat_lt, if◌then◌else◌, Bool, true, false}
use Rattle.std.proofs.Common.{List, [], ◌∷◌, length, Option, Some, refl, sym, ap, ◌∙◌, subst, arith, slice_get}
use Rattle.std.proofs.lemmas.{Bool.Decides.nat_tests, List.Sums.{count_by-le-length, sum_by-cons}, Option.{slice_get_within, get_or_from_slice_get}}
use Rattle.std.specs.List.{count_by}
use Rattle.race_records.specs.{declared.{source.Source.Source, sink.Sink.Sink}, Declarations.{DeclsState, capacity_of}, Devices.unread}
use Rattle.race_model.specs.{Legal.IsLegal, Race.IsDataRaceFree, Verdict.{Verdict, Clean, Races, Illegal}}
use Rattle.race_exchange.proofs.{OtherOrders.{order_back, other_orders_legal}, RacesKept.races_kept}
use Rattle.race_verdict.specs.Traces.{HasVerdict, IsClean, IsRacy, capacities}
use Rattle.race_hub.specs.{declared.ending.End.End, Recording.RecordingState}
use Rattle.race_script.specs.{Fault.program_causes, Program.ProgramState}
use Rattle.race_explore.specs.{declared.{explored.Explored.Explored, orders.Orders.Orders}, Orders.IsSameRun}
use Rattle.race_explore.specs.Walk.{Looked, IsExplored, IsLooked, EachWanted, trace_of, is_clean_run, is_racy_verdict, is_fault_end, is_deadlock_end}
use Rattle.race_tool.specs.declared.{explore.{ExploreOptions.ExploreOptions, ExploredProgram.ExploredProgram}, reply.Reply.Reply}
use Rattle.race_tool.specs.{Outcome.{Answers, IsOfAFinding, ReadsWhere}, Reply.{reply_text, reply_status}, Run.IsProgramWhere}
use Rattle.race_tool.specs.Explore.{status_of_explored, explored_text, reaches_limit, IsExploring, IsUnexplored, EachRunIsClean, HasRunWhere, Explores}
use Rattle.race_tool.proofs.{EngineLemmas.reads_where, RaceLemmas.no_fault_where, StatusLemmas.{small, middle, large, is_clean, is_racy}}
use Rattle.race_tool.specs.declared.status.TheConstants as status

-- the status, by the tests that decide it
abbrev chosen : Bool → Bool → Bool → Bool → Bool → ℕ
chosen races faults deadlocks more others =
    if races then status.RACES
    else (if faults then status.FAILED
    else (if deadlocks then status.DEADLOCK
    else (if more then status.LIMIT
    else (if others then status.BAD_REQUEST else status.CLEAN))))

chosen_own : (races faults deadlocks more others : Bool) → IsOfAFinding (chosen races faults deadlocks more others)
chosen_own true faults deadlocks more others = large status.RACES (omega arith)
chosen_own false true deadlocks more others = middle status.FAILED (omega arith) (omega arith)
chosen_own false false true more others = middle status.DEADLOCK (omega arith) (omega arith)
chosen_own false false false true others = middle status.LIMIT (omega arith) (omega arith)
chosen_own false false false false true = middle status.BAD_REQUEST (omega arith) (omega arith)
chosen_own false false false false false = small status.CLEAN (omega arith)

pub status_own : {A : Type 0} (e : Explored A) → IsOfAFinding (status_of_explored e)
status_own e = chosen_own (nat_lt 0 e.races) (nat_lt 0 e.faults) (nat_lt 0 e.deadlocks) (not e.whole || reaches_limit e.bad.items) (nat_lt e.clean e.runs)

-- what each status says of the tests
chosen_clean : (races faults deadlocks more others : Bool) → chosen races faults deadlocks more others ≡ status.CLEAN → (more ≡ false) × (others ≡ false)
chosen_clean true faults deadlocks more others is = absurd (omega (arith, is))
chosen_clean false true deadlocks more others is = absurd (omega (arith, is))
chosen_clean false false true more others is = absurd (omega (arith, is))
chosen_clean false false false true others is = absurd (omega (arith, is))
chosen_clean false false false false true is = absurd (omega (arith, is))
chosen_clean false false false false false is = (refl, refl)

chosen_races : (races faults deadlocks more others : Bool) → chosen races faults deadlocks more others ≡ status.RACES → races ≡ true
chosen_races true faults deadlocks more others is = refl
chosen_races false true deadlocks more others is = absurd (omega (arith, is))
chosen_races false false true more others is = absurd (omega (arith, is))
chosen_races false false false true others is = absurd (omega (arith, is))
chosen_races false false false false true is = absurd (omega (arith, is))
chosen_races false false false false false is = absurd (omega (arith, is))

chosen_failed : (races faults deadlocks more others : Bool) → chosen races faults deadlocks more others ≡ status.FAILED → faults ≡ true
chosen_failed true faults deadlocks more others is = absurd (omega (arith, is))
chosen_failed false true deadlocks more others is = refl
chosen_failed false false true more others is = absurd (omega (arith, is))
chosen_failed false false false true others is = absurd (omega (arith, is))
chosen_failed false false false false true is = absurd (omega (arith, is))
chosen_failed false false false false false is = absurd (omega (arith, is))

chosen_deadlock : (races faults deadlocks more others : Bool) → chosen races faults deadlocks more others ≡ status.DEADLOCK → deadlocks ≡ true
chosen_deadlock true faults deadlocks more others is = absurd (omega (arith, is))
chosen_deadlock false true deadlocks more others is = absurd (omega (arith, is))
chosen_deadlock false false true more others is = refl
chosen_deadlock false false false true others is = absurd (omega (arith, is))
chosen_deadlock false false false false true is = absurd (omega (arith, is))
chosen_deadlock false false false false false is = absurd (omega (arith, is))

-- 1 where it passes
abbrev one_if : Bool → ℕ
one_if b = cond b 1 0

some_is : {X : Type 0} (a b : X) → Some a ≡ Some b → a ≡ b
some_is a b is = cc

module _ {X : Type 0} (test : X → Bool) where
  abbrev IsCounted : List X → Type 0
  IsCounted xs = (k : ℕ) × (x : X) × (slice_get xs k ≡ Some x) × (test x ≡ true)

  count_cons : (x : X) (xs : List X) → count_by test (x ∷ xs) ≡ one_if (test x) + count_by test xs
  count_cons x xs = sum_by-cons (λ y. cond (test y) 1 0) x xs

  -- where one is counted there is one
  some_counted : (xs : List X) → 0 < count_by test xs → IsCounted xs
  some_counted [] more = absurd (omega (arith, more))
  some_counted (x ∷ xs) more = by (test x) refl (λ rest. some_counted xs rest)
    where
      by : (b : Bool) → test x ≡ b → (0 < count_by test xs → IsCounted xs) → IsCounted (x ∷ xs)
      by true is rest = (0, x, refl, is)
      by false is rest =
          let cons = count_cons x xs in
          let none : one_if (test x) ≡ 0 = ap one_if is in
          let (k, y, at, passes) = rest (omega (arith, more, cons, none)) in
          (suc k, y, at, passes)

  -- where all are counted each passes
  all_counted : (xs : List X) → length xs ≤ count_by test xs → (k : ℕ) (x : X) → slice_get xs k ≡ Some x → test x ≡ true
  all_counted [] all k x at = cc
  all_counted (x ∷ xs) all k y at = by (test x) refl (λ all i at. all_counted xs all i y at) k at
    where
      by : (b : Bool) → test x ≡ b → (length xs ≤ count_by test xs → (i : ℕ) → slice_get xs i ≡ Some y → test y ≡ true)
          → (k : ℕ) → slice_get (x ∷ xs) k ≡ Some y → test y ≡ true
      by false is rest k at =
          let none : one_if (test x) ≡ 0 = ap one_if is in
          let below = count_by-le-length test xs in
          let cons = count_cons x xs in
          absurd (omega (arith, all, cons, none, below))
      by true is rest zero at = ap test (sym (some_is x y at)) ∙ is
      by true is rest (suc k) at =
          let one : one_if (test x) ≡ 1 = ap one_if is in
          let cons = count_cons x xs in
          rest (omega (arith, all, cons, one)) k at

above : (n : ℕ) → nat_lt 0 n ≡ true → 0 < n
above n is = grind (arith, nat_tests)

not_above : (m n : ℕ) → nat_lt m n ≡ false → n ≤ m
not_above m n is = grind (arith, nat_tests)

is_whole : (whole more : Bool) → (not whole || more) ≡ false → whole ≡ true
is_whole true more is = refl
is_whole false more is = cc

-- what is tested of a run, in the model's words
racy_verdict : (r : RecordingState) (v : Verdict) → is_racy_verdict v ≡ true → HasVerdict (trace_of r) v → IsRacy (trace_of r)
racy_verdict r (Races races) is right = is_racy (trace_of r) races right
racy_verdict r Clean is right = cc
racy_verdict r (Illegal index rule) is right = cc

clean_run : (r : RecordingState) (v : Verdict) (end : End) → is_clean_run v end ≡ true → HasVerdict (trace_of r) v → IsClean (trace_of r) × (end ≡ End.Main)
clean_run r Clean End.Main is right = (is_clean (trace_of r) right, refl)
clean_run r Clean End.Fault is right = cc
clean_run r Clean End.Deadlock is right = cc
clean_run r Clean End.Limit is right = cc
clean_run r Clean (End.Bad g) is right = cc
clean_run r (Races races) end is right = cc
clean_run r (Illegal index rule) end is right = cc

fault_run : (end : End) → is_fault_end end ≡ true → end ≡ End.Fault
fault_run End.Fault is = refl
fault_run End.Main is = cc
fault_run End.Deadlock is = cc
fault_run End.Limit is = cc
fault_run (End.Bad g) is = cc

deadlock_run : (end : End) → is_deadlock_end end ≡ true → end ≡ End.Deadlock
deadlock_run End.Deadlock is = refl
deadlock_run End.Main is = cc
deadlock_run End.Fault is = cc
deadlock_run End.Limit is = cc
deadlock_run (End.Bad g) is = cc

-- what differs from a clean run only in the order of independent events is clean
clean_alike : (r clean : RecordingState) → IsSameRun r clean → IsClean (trace_of clean) → IsClean (trace_of r)
clean_alike r clean same is = is_clean (trace_of r) (legal, free)
  where
    caps : ℕ → ℕ
    caps = capacities (trace_of clean)

    same_caps : capacities (trace_of r) ≡ caps
    same_caps = ap (λ (d : DeclsState). capacity_of d.declarations) same.decls

    legal : IsLegal (capacities (trace_of r)) r.events
    legal = subst (λ c. IsLegal c r.events) (sym same_caps) (other_orders_legal caps clean.events r.events (order_back same.events) is.legal)

    free : IsDataRaceFree (capacities (trace_of r)) r.events
    free = subst (λ c. IsDataRaceFree c r.events) (sym same_caps)
        (λ x i j race. let (k, m, there) = (races_kept caps x same.events).0 (i, j, race) in is.race_free x k m there)

module _ {A : Type 0} (program : ProgramState) (limit most : ℕ) (orders : Orders) (e : Explored A) (explored : IsExplored program limit most orders e) where
  looked_at : (k : ℕ) (looked : Looked) → slice_get explored.seen k ≡ Some looked → IsLooked program limit looked
  looked_at k looked at =
      subst (IsLooked program limit) (get_or_from_slice_get explored.seen k looked looked at)
      (explored.looked k looked (slice_get_within explored.seen k looked at))

  -- where all that were looked at are clean, so is this one
  clean_looked : e.runs ≤ e.clean → (k : ℕ) (looked : Looked) → slice_get explored.seen k ≡ Some looked
      → IsClean (trace_of looked.run) × (looked.run.end ≡ End.Main)
  clean_looked all k looked at =
      let runs = explored.counts.runs in
      let clean = explored.counts.clean in
      let passes = all_counted (λ (l : Looked). is_clean_run l.verdict l.run.end) explored.seen (omega (arith, all, runs, clean)) k looked at in
      clean_run looked.run looked.verdict looked.run.end passes (looked_at k looked at).verdict

  each_is_clean : e.whole ≡ true → e.runs ≤ e.clean → EachRunIsClean limit program
  each_is_clean whole all = by orders (explored.whole whole)
    where
      by : (o : Orders) → EachWanted program limit o explored.seen → EachRunIsClean limit program
      by Orders.All each = λ picks r by_picks.
          let (k, looked, at, same) = each picks r by_picks in
          subst (λ (s : RecordingState). IsClean (trace_of s) × (s.end ≡ End.Main)) same (clean_looked all k looked at)
      by Orders.One each = λ picks r by_picks.
          let (k, looked, at, same) = each picks r by_picks in
          let (clean, end) = clean_looked all k looked at in
          (clean_alike r looked.run same clean, same.end ∙ end)

  -- a run that was looked at and passes the test
  one_passes : (test : Looked → Bool) (Holds : RecordingState → Type 0) → 0 < count_by test explored.seen
      → ((looked : Looked) → IsLooked program limit looked → test looked ≡ true → Holds looked.run) → HasRunWhere limit Holds program
  one_passes test Holds more says =
      let (k, looked, at, passes) = some_counted test explored.seen more in
      let is = looked_at k looked at in
      record { picks = looked.picks; run = looked.run; by_picks = is.run; holds = says looked is passes }

-- what a status that is no text fault's says of the bytes
told : {A : Type 0} (o : ExploreOptions) (own : ℕ) (Holds : ProgramState → Type 0) → (status.TEXT_FAULT ≡ own → ⊥)
    → ((found : ExploredProgram A) → IsExplored found.program o.limit o.runs o.orders found.explored → status_of_explored found.explored ≡ own → Holds found.program)
    → (reply : Reply (ExploredProgram A)) (bytes : List ℕ) → IsExploring o bytes reply
    → reply_status (λ found. status_of_explored found.explored) reply ≡ own → IsProgramWhere Holds bytes
told o own Holds other says (Reply.Faulty fault) bytes right is = absurd (other is)
told o own Holds other says (Reply.TooLong events) bytes right is = absurd right
told o own Holds other says (Reply.Broken illegal) bytes right is = absurd right
told o own Holds other says Reply.NoRace bytes right is = absurd right
told o own Holds other says (Reply.Found found) bytes right is = record { program = found.program; text_is = right.0; holds = says found right.1 is }

module _ {A R W : Type 0} (o : ExploreOptions) (remaining : R → Option (List ℕ)) (contents : W → Option (List ℕ))
    (source source_now : Source R) (sink sink_now : Sink W) (answer : ℕ)
    (answers : Answers program_causes (IsExploring {A = A} o) (reply_text explored_text) (reply_status (λ found. status_of_explored found.explored))
    (IsUnexplored o.limit) remaining contents source source_now sink sink_now answer) where
  reads : (own : ℕ) (Holds : ProgramState → Type 0) → answer ≡ own → IsOfAFinding own → (status.TEXT_FAULT ≡ own → ⊥)
      → ((found : ExploredProgram A) → IsExplored found.program o.limit o.runs o.orders found.explored → status_of_explored found.explored ≡ own → Holds found.program)
      → ReadsWhere (IsProgramWhere Holds) (unread remaining source) (unread remaining source_now)
  reads own Holds is finding other says =
      reads_where program_causes (IsExploring {A = A} o) (reply_text explored_text) (reply_status (λ found. status_of_explored found.explored))
      (IsUnexplored o.limit) remaining contents source source_now sink sink_now answer answers own is finding (IsProgramWhere Holds) (no_fault_where Holds)
      (λ found bytes right same. told {A = A} o own Holds other says found bytes right same)

  pub explores : Explores A o remaining contents source source_now sink sink_now answer
  explores = record {
    answers = answers;
    clean = λ is. reads status.CLEAN (EachRunIsClean o.limit) is (small status.CLEAN (omega arith)) (λ e. absurd (omega (arith, e))) clean_says;
    races = λ is. reads status.RACES (HasRunWhere o.limit (λ r. IsRacy (trace_of r))) is (large status.RACES (omega arith)) (λ e. absurd (omega (arith, e))) racy_says;
    failed = λ is. reads status.FAILED (HasRunWhere o.limit (λ r. r.end ≡ End.Fault)) is (middle status.FAILED (omega arith) (omega arith))
        (λ e. absurd (omega (arith, e))) failed_says;
    deadlock = λ is. reads status.DEADLOCK (HasRunWhere o.limit (λ r. r.end ≡ End.Deadlock)) is (middle status.DEADLOCK (omega arith) (omega arith))
        (λ e. absurd (omega (arith, e))) deadlock_says;
  }
    where
      clean_says : (found : ExploredProgram A) → IsExplored found.program o.limit o.runs o.orders found.explored
          → status_of_explored found.explored ≡ status.CLEAN → EachRunIsClean o.limit found.program
      clean_says found explored is =
          let e = found.explored in
          let tests = chosen_clean (nat_lt 0 e.races) (nat_lt 0 e.faults) (nat_lt 0 e.deadlocks) (not e.whole || reaches_limit e.bad.items) (nat_lt e.clean e.runs) is in
          each_is_clean found.program o.limit o.runs o.orders e explored (is_whole e.whole (reaches_limit e.bad.items) tests.0) (not_above e.clean e.runs tests.1)

      racy_says : (found : ExploredProgram A) → IsExplored found.program o.limit o.runs o.orders found.explored
          → status_of_explored found.explored ≡ status.RACES → HasRunWhere o.limit (λ r. IsRacy (trace_of r)) found.program
      racy_says found explored is =
          let e = found.explored in
          let test = chosen_races (nat_lt 0 e.races) (nat_lt 0 e.faults) (nat_lt 0 e.deadlocks) (not e.whole || reaches_limit e.bad.items) (nat_lt e.clean e.runs) is in
          let count = explored.counts.races in
          one_passes found.program o.limit o.runs o.orders e explored (λ l. is_racy_verdict l.verdict) (λ r. IsRacy (trace_of r))
          (subst (λ n. 0 < n) count (above e.races test)) (λ looked is passes. racy_verdict looked.run looked.verdict passes is.verdict)

      failed_says : (found : ExploredProgram A) → IsExplored found.program o.limit o.runs o.orders found.explored
          → status_of_explored found.explored ≡ status.FAILED → HasRunWhere o.limit (λ r. r.end ≡ End.Fault) found.program
      failed_says found explored is =
          let e = found.explored in
          let test = chosen_failed (nat_lt 0 e.races) (nat_lt 0 e.faults) (nat_lt 0 e.deadlocks) (not e.whole || reaches_limit e.bad.items) (nat_lt e.clean e.runs) is in
          let count = explored.counts.faults in
          one_passes found.program o.limit o.runs o.orders e explored (λ l. is_fault_end l.run.end) (λ r. r.end ≡ End.Fault)
          (subst (λ n. 0 < n) count (above e.faults test)) (λ looked is passes. fault_run looked.run.end passes)

      deadlock_says : (found : ExploredProgram A) → IsExplored found.program o.limit o.runs o.orders found.explored
          → status_of_explored found.explored ≡ status.DEADLOCK → HasRunWhere o.limit (λ r. r.end ≡ End.Deadlock) found.program
      deadlock_says found explored is =
          let e = found.explored in
          let test = chosen_deadlock (nat_lt 0 e.races) (nat_lt 0 e.faults) (nat_lt 0 e.deadlocks) (not e.whole || reaches_limit e.bad.items) (nat_lt e.clean e.runs) is in
          let count = explored.counts.deadlocks in
          one_passes found.program o.limit o.runs o.orders e explored (λ l. is_deadlock_end l.run.end) (λ r. r.end ≡ End.Deadlock)
          (subst (λ n. 0 < n) count (above e.deadlocks test)) (λ looked is passes. deadlock_run looked.run.end passes)
