-- A goroutine's part of a trace goes along its body event by event, and where a run fails it ends.
use Rattle.std.proofs.Common.{◌≡◌, ℕ, ◌+◌, ◌<◌, ◌==◌, ◌&&◌, ◌||◌, not, Bool, true, false, if◌then◌else◌, List, [], ◌∷◌}
use Rattle.std.proofs.Common.{◌++◌, length, take, slice_get, Option, Some, None, option_map, inl, inr, refl, sym, ap}
use Rattle.std.proofs.{Common.{subst, ◌∙◌, arith}, lemmas.{Bool.Decides.nat_tests, List.take-append-le}}
use Rattle.std.proofs.lemmas.{List.Sums.fold-append, Option.{slice_get-map, slice_get_within}}
use Rattle.std.proofs.Math.Seq.{take-append_seam}
use Rattle.race_records.specs.declared.event.{Cause.Cause, Event.Event, Op.TheVariants.Fault}
use Rattle.race_records.proofs.ListLemmas.{slice_get-push_cases, slice_get-within}
use Rattle.race_model.{proofs.StateSteps.over_push, specs.{Events.{is_exit, is_fault}, Legal.{IsLegal, broken}}}
use Rattle.race_model.specs.{Legal.{op_rules, actors_run, least_broken}, State.over}
use Rattle.race_legal.proofs.Fronts.{take_next}
use Rattle.race_requests.specs.declared.request.{Ask.Ask, Request.Request}
use Rattle.race_script.specs.Certificate.{after_event, behind, FitsAt, Follows, WaitsAt, IsRun, IsStuckAt}
use Rattle.race_script.specs.Program.{Instruction, asks_of, asked_by, instruction, spelled}

-- behind one event more
pub behind_push : (asks : List Ask) (events : List Event) (e : Event) → behind asks (events ++ e ∷ []) ≡ after_event asks (behind asks events) e.op
behind_push asks events e = fold-append (λ p (e : Event). after_event asks p e.op) 0 events (e ∷ [])

module _ (body : List Instruction) (places : List (List ℕ)) (g : ℕ) where
  pub follows_none : Follows body places g []
  follows_none n e at = absurd cc

  -- one event more, made by the step behind those before it
  pub follows_push : (events : List Event) (e : Event) → Follows body places g events → FitsAt body places g (behind (asked_by body) events) e
      → Follows body places g (events ++ e ∷ [])
  follows_push events e follows fits n f at =
      elim (slice_get-push_cases events e n f at) [
        | inl before ↦
            let within = slice_get_within events n f before in
            subst (λ past. FitsAt body places g (behind (asked_by body) past) f)
            (sym (take-append-le n events (e ∷ []) (omega (arith, within)))) (follows n f before)
        | inr last ↦
            subst (λ past. FitsAt body places g (behind (asked_by body) past) f)
            (sym (ap (λ k. take k (events ++ e ∷ [])) last.0 ∙ take-append_seam events (e ∷ [])))
            (subst (FitsAt body places g (behind (asked_by body) events)) (sym last.1) fits)
      ]

  -- who runs its body is stuck nowhere
  pub runs_or_stuck : (part : List Event) (waiting : Option Request) (p : ℕ) → IsRun body places g part waiting → IsStuckAt body places g part waiting p → ⊥
  runs_or_stuck part waiting p run (inl (n, e, at, before, here, misfit)) = misfit (subst (λ p. FitsAt body places g p e) (sym here) (run.follows n e at))
  runs_or_stuck part waiting p run (inr (follows, here, other)) = other (subst (λ p. WaitsAt body places g p waiting) (sym here) run.waits)

-- what is spelled asks the same
pub asks_spelled : (places : List (List ℕ)) (body : List Request) → asked_by (spelled places body) ≡ asks_of body
asks_spelled places [] = refl
asks_spelled places (r ∷ body) = ap (λ asks. r.ask ∷ asks) (asks_spelled places body)

-- a step of the body, as it is spelled
pub spelled_at : (places : List (List ℕ)) (body : List Request) (p : ℕ) (r : Request) → slice_get body p ≡ Some r
    → slice_get (spelled places body) p ≡ Some (instruction places r)
spelled_at places body p r at = slice_get-map (instruction places) body p ∙ ap (option_map (instruction places)) at

-- where the body has no step
pub spelled_past : (places : List (List ℕ)) (body : List Request) (p : ℕ) → slice_get body p ≡ None → slice_get (spelled places body) p ≡ None
spelled_past places body p none = slice_get-map (instruction places) body p ∙ ap (option_map (instruction places)) none

-- where the run is over, any event breaks a rule
over_stops : (caps : ℕ → ℕ) (past : List Event) (e : Event) → over past ≡ true → broken caps past e ≡ None → ⊥
over_stops caps past e is_over none = by (over past) is_over none where
  by : (b : Bool) → b ≡ true → (if b then Some 1 else least_broken ((2, not (actors_run past e)) ∷ op_rules caps past e.who e.op)) ≡ None → ⊥
  by true is none = cc
  by false is none = cc

either_true : (a b c : Bool) → c ≡ true → (a || (b || c)) ≡ true
either_true true b c is = refl
either_true false true c is = refl
either_true false false c is = is

-- a fault is the last event of a legal trace
pub fault_is_last : (caps : ℕ → ℕ) (events : List Event) (n : ℕ) (e : Event) (cause : Cause) → IsLegal caps events → slice_get events n ≡ Some e
    → e.op ≡ Fault cause → n + 1 ≡ length events
fault_is_last caps events n e cause legal at is =
    by (slice_get_within events n e at) (n + 1 == length events) refl
  where
    by : n < length events → (b : Bool) → (n + 1 == length events) ≡ b → n + 1 ≡ length events
    by within true test = grind (arith, nat_tests, test)
    by within false test =
        let more : n + 1 < length events = grind (arith, nat_tests, test, within) in
        let next = slice_get-within events (n + 1) more in
        let is_over = ap over (take_next events n e at) ∙ over_push (take n events) e
        ∙ either_true (over (take n events)) ((e.who == 0) && is_exit e.op) (is_fault e.op) (ap is_fault is) in
        absurd (over_stops caps (take (n + 1) events) next.0 is_over (legal (n + 1) next.0 next.1))

-- so where it is a fault the last event is that one
pub last_event : (caps : ℕ → ℕ) (events : List Event) (n last : ℕ) (e f : Event) (cause : Cause) → IsLegal caps events → slice_get events n ≡ Some e
    → e.op ≡ Fault cause → slice_get events last ≡ Some f → last + 1 ≡ length events → f.op ≡ Fault cause
last_event caps events n last e f cause legal at is there ends =
    let end = fault_is_last caps events n e cause legal at is in
    let same : last ≡ n = omega (arith, end, ends) in
    let one : f ≡ e = let here = ap (slice_get events) same in cc in
    ap (λ (e : Event). e.op) one ∙ is
