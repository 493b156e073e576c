-- Every step of a hub goes from a kept state to a kept one.
use Rattle.std.proofs.Common.{◌≡◌, ◌≢◌, ◌==◌, ◌&&◌, ◌||◌, not, ℕ, ◌<◌, ◌≤◌, ◌+◌, ◌-◌, ◌++◌, Bool, true, false, cond, List, []}
use Rattle.std.proofs.Common.{◌∷◌, length, slice_get, Option, Some, None, refl, sym, ap, ◌∙◌, subst, arith}
use Rattle.std.proofs.Common.{length-append, eq-eqb}
use Rattle.std.proofs.lemmas.{List.length-set, Option.slice_get_within}
use Rattle.std.specs.{List.{count_by, list_any}, Prelude.is_some}
use Rattle.race_records.specs.{declared.event.{Event.Event}, Declarations.{DeclsState, capacity_of}}
use Rattle.race_model.specs.{Events.{starts, is_exit, is_fault, has_exited}, State.started, Legal.IsLegal}
use Rattle.race_model.proofs.{LegalSteps.legal_push, CountSteps.as_number}
use Rattle.race_requests.specs.declared.{choice.Choice.Choice, request.{Answer.Answer, Waiter.Waiter}}
use Rattle.race_hub.specs.{Job.JobState, Hub.HubState, Submits.{Takes, Submits, is_stray}}
use Rattle.race_hub.specs.Fires.{Fires, partner_of, goes_on, started_by, begins, HasRoutine}
use Rattle.race_hub.specs.Kept.{standing, has_failed, has_left, is_active, has_routine, IsKept, StandOnce}
use Rattle.race_hub.proofs.TableLemmas.{both_true, same_number, has_set, leaver_len, leaver_count, step_len}
use Rattle.race_hub.proofs.OnceLemmas.{leaves, told_leaves, event_who, count_without, goes_count, partner_count}
use Rattle.race_hub.proofs.OnceLemmas.{begun_count, four_counts, asker_balance, one_step, started_fresh, active_push}
use Rattle.race_hub.proofs.OnceLemmas.{at_most_one, count_append, count_one, count_cons, passes, starts_go, is_waiter, ready_of}
use Rattle.race_hub.proofs.{EndedLemmas.{standing_stays, left_push, not_not}, AmongLemmas.first_gone}

not_false : (b : Bool) → not b ≡ false → b ≡ true
not_false true is = refl
not_false false is = absurd cc

legal_same : (d e : DeclsState) (past later : List Event) → e ≡ d → later ≡ past → IsLegal (capacity_of d.declarations) past
    → IsLegal (capacity_of e.declarations) later
legal_same d e past later decls events legal =
    subst (λ (d : DeclsState). IsLegal (capacity_of d.declarations) later) (sym decls)
    (subst (λ es. IsLegal (capacity_of d.declarations) es) (sym events) legal)

-- a routine comes back, whose job was out
returned : (b here after : Bool) (out less left : ℕ) → cond here 1 0 + out + left ≡ 1 → less + as_number b ≡ out → after ≡ cond b true here
    → cond after 1 0 + less + left ≡ 1
returned true here after out less left sum fewer set = let one = ap as_number set in omega (arith, sum, fewer, one)
returned false here after out less left sum fewer set = let one = ap as_number set in omega (arith, sum, fewer, one)

-- a routine goes, with its job
gone : (b here after : Bool) (out more left : ℕ) → cond here 1 0 + out + left ≡ 1 → more ≡ out + as_number b → (b ≡ true → here ≡ true)
    → after ≡ cond b false here → cond after 1 0 + more + left ≡ 1
gone true here after out more left sum longer there set =
    let one = ap as_number (there refl) in let none = ap as_number set in omega (arith, sum, longer, one, none)
gone false here after out more left sum longer there set = let one = ap as_number set in omega (arith, sum, longer, one)

pub is_one : (b : Bool) → as_number b ≡ 1 → b ≡ true
is_one true is = refl
is_one false is = absurd (omega (arith, is))

module _ {R : Type 0} where
  -- whose job isn't out and who hasn't left has its routine
  pub routine_there : (h : HubState R) (g : ℕ) → IsKept h → g < length h.routines → count_by (λ o. o == g) h.out ≡ 0 → has_left g h.events ≡ false
      → (routine : R) × (slice_get h.routines g ≡ Some (Some routine))
  routine_there h g kept less out stays =
      let all = kept.routines g less in
      let left = ap as_number stays in
      by (slice_get h.routines g) (is_one (has_routine g h.routines) (omega (arith, all, out, left)))
    where
      by : (o : Option (Option R)) → elim o [ None ↦ false | Some routine ↦ is_some routine ] ≡ true → (routine : R) × (o ≡ Some (Some routine))
      by None is = absurd cc
      by (Some None) is = absurd cc
      by (Some (Some routine)) is = (routine, refl)

  -- so has who was nothing before
  pub fresh_routine : (h : HubState R) (g : ℕ) → IsKept h → g < length h.routines → (g == 0 || started g h.events) ≡ false
      → has_exited g h.events ≡ false → has_failed g h.events ≡ false → (routine : R) × (slice_get h.routines g ≡ Some (Some routine))
  fresh_routine h g kept less fresh exited failed =
      let once = kept.once g ∙ (λ i. cond ((fresh i && not (has_exited g h.events)) && not (has_failed g h.events)) 1 0) in
      routine_there h g kept less (omega (arith, once)) (λ i. exited i || failed i)

  -- with one job out
  taken_once : (old new : HubState R) (job : JobState R) → Takes old job new → (g : ℕ) → standing new g ≡ standing old g
  taken_once old new job t g =
      let (decls, events, limit, waiting, bad) = t.same in
      let before = ap (count_by (λ (r : ℕ × Answer). r.0 == g)) t.ready ∙ count_cons (λ (r : ℕ × Answer). r.0 == g) (job.who, job.answer) new.ready in
      let after = ap (count_by (λ o. o == g)) t.out ∙ count_append (λ o. o == g) old.out (job.who ∷ []) in
      let one = count_one (λ o. o == g) job.who in
      let waits = ap (count_by (λ (r : Waiter). r.who == g)) waiting in
      omega (arith, before, after, one, waits)

  pub taken_kept : (old new : HubState R) (job : JobState R) → Takes old job new → IsKept old → IsKept new
  taken_kept old new job t kept =
      let (decls, events, limit, waiting, bad) = t.same in
      let within = slice_get_within old.routines job.who (Some job.routine) t.routine in
      let len = ap length t.routines ∙ length-set old.routines job.who None in
      record {
        legal = legal_same old.decls new.decls old.events new.events decls events kept.legal;
        limited = rw (events, limit) kept.limited;
        once = λ g. taken_once old new job t g ∙ kept.once g ∙ ap (λ es. cond (is_active g es) 1 0) (sym events);
        routines = λ g less.
            let more = ap (count_by (λ o. o == g)) t.out ∙ count_append (λ o. o == g) old.out (job.who ∷ []) in
            let one = count_one (λ o. o == g) job.who in
            let set = ap (has_routine g) t.routines ∙ has_set old.routines job.who g None within in
            let there : (job.who == g) ≡ true → has_routine g old.routines ≡ true = λ is.
            ap (λ (o : Option (Option R)). elim o [ None ↦ false | Some r ↦ is_some r ])
            (ap (slice_get old.routines) (sym (same_number job.who g is)) ∙ t.routine) in
            rw events (gone (job.who == g) (has_routine g old.routines) (has_routine g new.routines) (count_by (λ o. o == g) old.out)
            (count_by (λ o. o == g) new.out) (cond (has_left g old.events) 1 0) (kept.routines g (subst (λ n. g < n) len less)) (omega (arith, more, one))
            there set);
        places = λ g some. subst (λ n. g < n) (sym len) (kept.places g (subst (λ n. 0 < n) (taken_once old new job t g) some));
        logs = ap length t.logs ∙ length-set old.logs job.who [] ∙ kept.logs ∙ sym len;
      }

  -- with one job back
  pub was_out : (old : HubState R) (job : JobState R) → is_stray old job ≡ false → list_any (λ o. o == job.who) old.out ≡ true
  was_out old job back = (both_true (is_some job.asked) (list_any (λ o. o == job.who) old.out) (not_false _ back)).1

  pub fewer_out : (old new : HubState R) (job : JobState R) → is_stray old job ≡ false → Submits old job new → (g : ℕ)
      → count_by (λ o. o == g) new.out + as_number (job.who == g) ≡ count_by (λ o. o == g) old.out
  fewer_out old new job back t g =
      ap (λ xs. count_by (λ o. o == g) xs + cond (job.who == g) 1 0) t.out ∙ first_gone old.out job.who g (was_out old job back)

  -- whose job is out has a place
  pub out_within : (old : HubState R) (who : ℕ) → list_any (λ o. o == who) old.out ≡ true → IsKept old → who < length old.routines
  out_within old who among kept =
      let one : as_number (who == who) ≡ 1 = ap as_number (eq-eqb who who refl) in
      let less = first_gone old.out who who among in
      kept.places who (omega (arith, one, less))

  submitted_once : (old new : HubState R) (job : JobState R) → is_stray old job ≡ false → Submits old job new → (g : ℕ) → standing new g ≡ standing old g
  submitted_once old new job back t g =
      let (decls, events, limit, ready) = t.same in
      let w : Waiter = record { who = job.who; asked = t.asked } in
      let jobs = ap (count_by (λ (r : ℕ × Answer). r.0 == g)) ready in
      let more = ap (count_by (λ (r : Waiter). r.who == g)) t.waiting ∙ count_append (λ (r : Waiter). r.who == g) old.waiting (w ∷ []) in
      let one = count_one (λ (r : Waiter). r.who == g) w in
      let left = fewer_out old new job back t g in
      omega (arith, jobs, more, one, left)

  pub submitted_kept : (old new : HubState R) (job : JobState R) → is_stray old job ≡ false → Submits old job new → IsKept old → IsKept new
  submitted_kept old new job back t kept =
      let (decls, events, limit, ready) = t.same in
      let within = out_within old job.who (was_out old job back) kept in
      let len = ap length t.routines ∙ length-set old.routines job.who (Some job.routine) in
      record {
        legal = legal_same old.decls new.decls old.events new.events decls events kept.legal;
        limited = rw (events, limit) kept.limited;
        once = λ g. submitted_once old new job back t g ∙ kept.once g ∙ ap (λ es. cond (is_active g es) 1 0) (sym events);
        routines = λ g less.
            let set = ap (has_routine g) t.routines ∙ has_set old.routines job.who g (Some job.routine) within in
            rw events (returned (job.who == g) (has_routine g old.routines) (has_routine g new.routines) (count_by (λ o. o == g) old.out)
            (count_by (λ o. o == g) new.out) (cond (has_left g old.events) 1 0) (kept.routines g (subst (λ n. g < n) len less))
            (fewer_out old new job back t g) set);
        places = λ g some. subst (λ n. g < n) (sym len) (kept.places g (subst (λ n. 0 < n) (submitted_once old new job back t g) some));
        logs = ap length t.logs ∙ length-set old.logs job.who job.log ∙ kept.logs ∙ sym len;
      }

  -- behind a firing
  module _ (old new : HubState R) (t : Choice) (f : Fires old t new) (partner : t.partner ≤ length old.waiting) (apart : t.partner ≢ t.place + 1) where
    asker_who : (g : ℕ) → (f.e.who == g) ≡ (f.w.who == g)
    asker_who g = ap (λ n. n == g) (event_who old.events old.waiting t f.w f.e f.asks f.makes)

    asker_told : is_some f.told ≡ not (leaves f.e.op)
    asker_told = told_leaves f.w.asked.ask t.offer f.w.who f.e.op f.told f.row

    waits : (g : ℕ) → count_by (is_waiter g) new.waiting + as_number (f.w.who == g) + passes (is_waiter g) (partner_of t old.waiting)
        ≡ count_by (is_waiter g) old.waiting
    waits g =
        ap (λ ws. count_by (is_waiter g) ws + as_number (f.w.who == g) + passes (is_waiter g) (partner_of t old.waiting)) f.waiting
        ∙ count_without (is_waiter g) t old.waiting f.w f.asks partner apart

    sums : (g : ℕ) → standing old g + as_number (starts g f.e.op) ≡ standing new g + as_number ((f.e.who == g) && leaves f.e.op)
    sums g =
        let (decls, limit, same_out, bad) = f.same in
        let asker : ready_of g (goes_on (Some f.w) f.told) ≡ as_number (not (leaves f.e.op) && (f.w.who == g)) =
        goes_count g f.w f.told ∙ ap (λ b. as_number (b && (f.w.who == g))) asker_told in
        let other = partner_count g (partner_of t old.waiting) (t.partner_offer - 1) f.e.op f.partner_told f.partner_row in
        let born = begun_count g f.e.op in
        let ready = ap (ready_of g) f.ready
        ∙ four_counts g old.ready (goes_on (Some f.w) f.told) (goes_on (partner_of t old.waiting) f.partner_told) (begins (started_by f.e.op)) in
        let left = waits g in
        let out = ap (count_by (λ o. o == g)) same_out in
        let balance = asker_balance (leaves f.e.op) (f.w.who == g) in
        let leaver = ap (λ b. as_number (b && leaves f.e.op)) (asker_who g) in
        omega (arith, asker, other, born, ready, left, out, balance, leaver)

    -- who asked stood in a list
    stood : (g : ℕ) → (f.e.who == g) ≡ true → 0 < count_by (is_waiter g) old.waiting
    stood g is =
        let one : as_number (f.w.who == g) ≡ 1 = ap as_number (sym (asker_who g) ∙ is) in
        let all = waits g in
        omega (arith, all, one)

    fired_once : IsKept old → StandOnce new
    fired_once kept g =
        one_step (g == 0) (started g old.events) (has_exited g old.events) (has_failed g old.events) (starts g f.e.op) (f.e.who == g)
        (is_exit f.e.op) (is_fault f.e.op) (standing old g) (standing new g) (kept.once g) (sums g)
        (λ is. let some = stood g is in omega (arith, some))
        (started_fresh (capacity_of old.decls.declarations) old.events f.e g kept.legal f.legal)
        ∙ ap (λ b. cond b 1 0) (sym (active_push g old.events f.e)) ∙ ap (λ es. cond (is_active g es) 1 0) (sym f.events)

    -- who asked hadn't left
    stayed : IsKept old → (g : ℕ) → (f.e.who == g) ≡ true → has_left g old.events ≡ false
    stayed kept g is =
        let some = stood g is in
        standing_stays (g == 0 || started g old.events) (has_exited g old.events) (has_failed g old.events) (standing old g) (kept.once g) (omega (arith, some))

    fired_len : length new.routines ≡ length old.routines
    fired_len = ap length f.routines ∙ leaver_len (Some f.w) f.told old.routines

    fired_routines : IsKept old → (g : ℕ) → g < length new.routines
        → cond (has_routine g new.routines) 1 0 + count_by (λ o. o == g) new.out + cond (has_left g new.events) 1 0 ≡ 1
    fired_routines kept g less =
        let (decls, limit, same_out, bad) = f.same in
        let within = subst (λ n. g < n) fired_len less in
        let sum = kept.routines g within in
        let out = ap (count_by (λ o. o == g)) same_out in
        let there : (f.w.who == g) ≡ true → has_routine g old.routines ≡ true = λ is.
        let some = stood g (asker_who g ∙ is) in
        let none = ap as_number (stayed kept g (asker_who g ∙ is)) in
        let once = kept.once g in
        let most = at_most_one (is_active g old.events) in
        is_one (has_routine g old.routines) (omega (arith, sum, some, none, once, most)) in
        let inside = kept.places f.w.who (let some = waits f.w.who in let own = ap as_number (eq-eqb f.w.who f.w.who refl) in omega (arith, some, own)) in
        let fewer = ap (λ rs. as_number (has_routine g rs)) f.routines in
        let leaver = leaver_count f.w f.told old.routines g inside there in
        let told = ap (λ b. as_number (not b && (f.w.who == g))) asker_told ∙ ap (λ b. as_number (b && (f.w.who == g))) (not_not (leaves f.e.op)) in
        let who = ap (λ b. as_number (leaves f.e.op && b)) (asker_who g) in
        let left : as_number (has_left g old.events) + as_number (leaves f.e.op && (f.e.who == g)) ≡ as_number (has_left g (old.events ++ f.e ∷ [])) =
        left_push g old.events f.e (as_number (has_left g old.events)) (as_number (has_left g old.events) + as_number (leaves f.e.op && (f.e.who == g)))
        refl refl (stayed kept g) in
        let all = ap (λ es. as_number (has_left g es)) f.events in
        omega (arith, sum, out, fewer, leaver, told, who, left, all)

    fired_places : IsKept old → (g : ℕ) → 0 < standing new g → g < length new.routines
    fired_places kept g some = by (starts g f.e.op) refl
      where
        by : (b : Bool) → starts g f.e.op ≡ b → g < length new.routines
        by true is =
            let (routine, at) = subst (λ op. HasRoutine old.routines (started_by op)) (starts_go g f.e.op is) f.routine in
            subst (λ n. g < n) (sym fired_len) (slice_get_within old.routines g (Some routine) at)
        by false is =
            let none = ap as_number is in
            let all = sums g in
            subst (λ n. g < n) (sym fired_len) (kept.places g (omega (arith, some, none, all)))

    pub fired_kept : length old.events < old.limit → IsKept old → IsKept new
    fired_kept less kept =
        let (decls, limit, out, bad) = f.same in
        let more = length-append old.events (f.e ∷ []) in
        record {
          legal = legal_same old.decls new.decls (old.events ++ f.e ∷ []) new.events decls f.events
              (legal_push (capacity_of old.decls.declarations) old.events f.e kept.legal f.legal);
          limited = rw (f.events, limit) (omega (arith, less, more));
          once = fired_once kept;
          routines = fired_routines kept;
          places = fired_places kept;
          logs = ap length f.logs ∙ step_len (partner_of t old.waiting) f.partner_told _ ∙ step_len (Some f.w) f.told old.logs ∙ kept.logs ∙ sym fired_len;
        }
