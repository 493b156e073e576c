-- The turns behind an event, until nobody is ready: what is asked, and by whom.
use Rattle.std.proofs.Common.{ℕ, suc, ◌≡◌, ◌==◌, ◌<◌, ◌++◌, ◌&&◌, Bool, true, false, cond, if◌then◌else◌, List, [], ◌∷◌, length}
use Rattle.std.proofs.Common.{Option, Some, None, refl, sym, ap, ◌∙◌, subst, arith, slice_get, slice_set, append_assoc, true≢false, eq-eqb, eqb-true}
use Rattle.std.proofs.lemmas.{Option.{none-some, slice_get_within}, List.length-set, Bool.Decides.nat_tests}
use Rattle.race_records.specs.{declared.event.Event.Event, Declarations.DeclsState}
use Rattle.race_requests.specs.{declared.request.{Answer.Answer, Request.Request, Waiter.Waiter}, Sound.is_bad_among}
use Rattle.race_hub.specs.{Hub.{HubState, choices_of, stop_by, stop_of, is_deadlock, end_of}, Kept.IsKept}
use Rattle.race_hub.proofs.TableLemmas.{set_other, get_set}
use Rattle.race_record.specs.{declared.noting.Fork.Fork, Serial.TakesTurn}
use Rattle.race_explore.specs.Ways.{Way, here, turned, fired, choice_count, IsNumbered}
use Rattle.race_explore.proofs.WaiterLemmas.{waits_of}
use Rattle.race_explore.proofs.TurnLemmas.{asker, unstopped, runs_while, none_bad, Turns, turn_facts, turn_kept, turn_made}

-- each is ready by a number that passes
abbrev pub AllPass : (ℕ → Bool) → List (ℕ × Answer) → Type 0
AllPass p [] = Unit {0}
AllPass p (r ∷ ready) = (p r.0 ≡ true) × AllPass p ready

-- none of the requests is bad as it joins the others and those before it
abbrev pub NoneIsBad : DeclsState → List Event → List Waiter → List Waiter → Type 0
NoneIsBad decls past ws [] = Unit {0}
NoneIsBad decls past ws (w ∷ more) = (is_bad_among decls past ws w ≡ false) × NoneIsBad decls past (ws ++ w ∷ []) more

pub nothing_more : {X : Type 0} (xs : List X) → xs ≡ xs ++ []
nothing_more [] = refl
nothing_more (x ∷ xs) = ap (λ l. x ∷ l) (nothing_more xs)

module _ {R : Type 0} where
  -- a routine asks, and has its place again
  abbrev pub set_next : List (Option R) → ℕ → R → List (Option R)
  set_next rs who next = slice_set (slice_set rs who None) who (Some next)

  -- the same routines are there at the numbers that pass; at those that don't
  abbrev pub AgreeOn : (ℕ → Bool) → List (Option R) → List (Option R) → Type 0
  AgreeOn p rs others = (g : ℕ) → p g ≡ true → slice_get others g ≡ slice_get rs g

  abbrev pub AgreeOff : (ℕ → Bool) → List (Option R) → List (Option R) → Type 0
  AgreeOff p rs others = (g : ℕ) → p g ≡ false → slice_get others g ≡ slice_get rs g

  pub next_there : (rs : List (Option R)) (who : ℕ) (o : Option R) (next : R) → slice_get rs who ≡ Some o → slice_get (set_next rs who next) who ≡ Some (Some next)
  next_there rs who o next there =
      let len = length-set rs who None in
      let within = slice_get_within rs who o there in
      get_set (slice_set rs who None) who (Some next) (omega (arith, len, within))

  pub next_elsewhere : (rs : List (Option R)) (who g : ℕ) (next : R) → (who ≡ g → ⊥) → slice_get (set_next rs who next) g ≡ slice_get rs g
  next_elsewhere rs who g next other = set_other (slice_set rs who None) who g (Some next) other ∙ set_other rs who g None other

module _ {R : Type 0} (asks : R → Answer → Request → R → Type 0) where
  -- one after another they go on with their answers and ask this, and then these routines are there
  abbrev pub AskAll : List (ℕ × Answer) → List (Option R) → List Waiter → List (Option R) → Type 0
  AskAll [] rs ws last = (ws ≡ []) × (last ≡ rs)
  AskAll (r ∷ ready) rs ws last =
      (routine : R) × (next : R) × (asked : Request) × (rest : List Waiter) × (slice_get rs r.0 ≡ Some (Some routine)) × asks routine r.1 asked next
      × (ws ≡ asker r.0 asked ∷ rest) × AskAll ready (set_next rs r.0 next) rest last

  module _ (p : ℕ → Bool) where
    agree_set : (rs others : List (Option R)) (who : ℕ) (o : Option R) (next : R) → p who ≡ true → slice_get rs who ≡ Some o → AgreeOn p rs others
        → AgreeOn p (set_next rs who next) (set_next others who next)
    agree_set rs others who o next passes there agree g g_passes = by (who == g) refl
      where
        by : (b : Bool) → (who == g) ≡ b → slice_get (set_next others who next) g ≡ slice_get (set_next rs who next) g
        by true is =
            let same = eqb-true who g is in
            subst (λ m. slice_get (set_next others who next) m ≡ slice_get (set_next rs who next) m) same
            (next_there others who o next (agree who passes ∙ there) ∙ sym (next_there rs who o next there))
        by false is =
            let unlike : who ≡ g → ⊥ = λ same. true≢false (sym (eq-eqb who g same) ∙ is) in
            next_elsewhere others who g next unlike ∙ agree g g_passes ∙ sym (next_elsewhere rs who g next unlike)

    unlike_off : (who g : ℕ) → p who ≡ true → p g ≡ false → who ≡ g → ⊥
    unlike_off who g passes fails same = true≢false (sym passes ∙ ap p same ∙ fails)

    -- who isn't among those that ask keeps its routine
    pub ask_off : (ready : List (ℕ × Answer)) (rs : List (Option R)) (ws : List Waiter) (last : List (Option R)) → AllPass p ready → AskAll ready rs ws last
        → AgreeOff p rs last
    ask_off [] rs ws last all (none, is) g fails = ap (λ l. slice_get l g) is
    ask_off (r ∷ ready) rs ws last all (routine, next, asked, rest, there, does, is, more) g fails =
        ask_off ready (set_next rs r.0 next) rest last all.1 more g fails ∙ next_elsewhere rs r.0 g next (unlike_off r.0 g all.0 fails)

    -- and asks nothing
    pub ask_none : (ready : List (ℕ × Answer)) (rs : List (Option R)) (ws : List Waiter) (last : List (Option R)) → AllPass p ready → AskAll ready rs ws last
        → (g : ℕ) → p g ≡ false → waits_of g ws ≡ None
    ask_none [] rs ws last all (none, is) g fails = ap (waits_of g) none
    ask_none (r ∷ ready) rs ws last all (routine, next, asked, rest, there, does, is, more) g fails =
        ap (waits_of g) is
        ∙ ap (λ b. cond b (Some (asker r.0 asked)) (waits_of g rest)) (off (r.0 == g) refl)
        ∙ ask_none ready (set_next rs r.0 next) rest last all.1 more g fails
      where
        off : (b : Bool) → (r.0 == g) ≡ b → (r.0 == g) ≡ false
        off true test = absurd (unlike_off r.0 g all.0 fails (eqb-true r.0 g test))
        off false test = test

    -- they ask the same where they have the same routines
    pub ask_elsewhere : (ready : List (ℕ × Answer)) (rs others : List (Option R)) (ws : List Waiter) (last : List (Option R)) → AllPass p ready
        → AgreeOn p rs others → AskAll ready rs ws last → (end : List (Option R)) × AskAll ready others ws end × AgreeOn p last end × AgreeOff p others end
    ask_elsewhere [] rs others ws last all agree (none, is) =
        (others, (none, refl), (λ g passes. agree g passes ∙ ap (λ l. slice_get l g) (sym is)), (λ g fails. refl))
    ask_elsewhere (r ∷ ready) rs others ws last all agree (routine, next, asked, rest, there, does, is, more) =
        let (end, asked_all, on, off) =
        ask_elsewhere ready (set_next rs r.0 next) (set_next others r.0 next) rest last all.1
        (agree_set rs others r.0 (Some routine) next all.0 there agree) more in (
          end,
          (routine, next, asked, rest, agree r.0 all.0 ∙ there, does, is, asked_all),
          on,
          (λ g fails. off g fails ∙ next_elsewhere others r.0 g next (unlike_off r.0 g all.0 fails)),
        )

  -- the turns from one state to the next in which nobody is ready
  pub record Settled (h : HubState R) (asked : List Waiter) (m : HubState R) : Type 0 where
    pub all : AskAll h.ready h.routines asked m.routines
    pub fine : NoneIsBad h.decls h.events h.waiting asked
    pub waiting : m.waiting ≡ h.waiting ++ asked
    pub events : m.events ≡ h.events
    pub decls : m.decls ≡ h.decls
    pub limit : m.limit ≡ h.limit
    pub ready : m.ready ≡ []
    pub out : m.out ≡ []
    pub bad : m.bad ≡ None

  pub settled_at_once : (h : HubState R) → h.ready ≡ [] → h.out ≡ [] → h.bad ≡ None → Settled h [] h
  settled_at_once h idle out bad = record {
    all = subst (λ r. AskAll r h.routines [] h.routines) (sym idle) (refl, refl);
    fine = tt;
    waiting = nothing_more h.waiting;
    events = refl;
    decls = refl;
    limit = refl;
    ready = idle;
    out = out;
    bad = bad;
  }

  pub settled_more : (h b m : HubState R) (who : ℕ) (asked : Request) (next : R) (rest : List Waiter) → Turns asks h who asked next b
      → is_bad_among h.decls h.events h.waiting (asker who asked) ≡ false → Settled b rest m → Settled h (asker who asked ∷ rest) m
  settled_more h b m who asked next rest t fine s =
      let (decls, events, limit) = t.same in record {
        all = subst (λ r. AskAll r h.routines (asker who asked ∷ rest) m.routines) (sym t.ready)
            (t.routine, next, asked, rest, t.routine_is, t.does, refl, subst (λ rs. AskAll b.ready rs rest m.routines) t.routines s.all);
        fine = (
          fine,
          subst (λ ws. NoneIsBad h.decls h.events ws rest) t.waiting
              (subst (λ es. NoneIsBad h.decls es b.waiting rest) events (subst (λ d. NoneIsBad d b.events b.waiting rest) decls s.fine)),
        );
        waiting = s.waiting ∙ ap (λ ws. ws ++ rest) t.waiting ∙ append_assoc h.waiting (asker who asked ∷ []) rest;
        events = s.events ∙ events;
        decls = s.decls ∙ decls;
        limit = s.limit ∙ limit;
        ready = s.ready;
        out = s.out;
        bad = s.bad;
      }

  abbrev pub GoesTo : HubState R → List Fork → HubState R → Type 0
  GoesTo h forks last = Way (TakesTurn asks) IsNumbered choice_count h forks last

  -- from a state with more events to come: the turns up to the next event, and the way from there
  pub record NextEvent (h last : HubState R) : Type 0 where
    pub asked : List Waiter
    pub m : HubState R
    pub settled : Settled h asked m
    pub kept : IsKept m
    pub pick : ℕ
    pub next : HubState R
    pub numbered : IsNumbered pick m next
    pub forks : List Fork
    pub way : GoesTo next forks last
    pub before : (more : List Fork) (end : HubState R) → GoesTo m more end → GoesTo h more end

  going : {h last : HubState R} {forks : List Fork} → GoesTo h forks last → length h.events < length last.events → end_of h ≡ None
  going here less = absurd (omega (arith, less))
  going (turned turn way) less = turn.running
  going (fired pick fire way) less = fire.1.1.running

  not_bad : (b : Bool) (who : ℕ) (bad before : Option ℕ) → bad ≡ (if b then Some who else before) → bad ≡ None → b ≡ false
  not_bad true who bad before is none = absurd (none-some who (sym none ∙ is))
  not_bad false who bad before is none = refl

  pub next_event : {h last : HubState R} {forks : List Fork} → GoesTo h forks last → h.out ≡ [] → IsKept h → length h.events < length last.events
      → NextEvent h last
  next_event here out kept less = absurd (omega (arith, less))
  next_event {h = h} (fired {b = b} {forks = forks} pick fire way) out kept less = record {
    asked = [];
    m = h;
    settled = settled_at_once h fire.1.0 out (none_bad h (unstopped h fire.1.1.running));
    kept = kept;
    pick = pick;
    next = b;
    numbered = fire;
    forks = forks;
    way = way;
    before = λ more end behind. behind;
  }
  next_event {h = h} {last = last} (turned {b = b} turn way) out kept less =
      let (who, asked, next, t) = turn_facts asks h b out turn in
      let (decls, events, limit) = t.same in
      let same = ap length events in
      let more : length b.events < length last.events = omega (arith, same, less) in
      let rest = next_event way t.out (turn_kept asks h b out turn kept) more in
      record {
        asked = asker who asked ∷ rest.asked;
        m = rest.m;
        settled = settled_more h b rest.m who asked next rest.asked t
            (not_bad (is_bad_among h.decls h.events h.waiting (asker who asked)) who b.bad h.bad t.bad (none_bad b (unstopped b (going way more)))) rest.settled;
        kept = rest.kept;
        pick = rest.pick;
        next = rest.next;
        numbered = rest.numbered;
        forks = rest.forks;
        way = rest.way;
        before = λ more end behind. turned turn (rest.before more end behind);
      }

  -- such turns are taken where they can be
  pub record Settles (h : HubState R) (asked : List Waiter) (last : List (Option R)) : Type 0 where
    pub m : HubState R
    pub settled : Settled h asked m
    pub routines : m.routines ≡ last
    pub kept : IsKept m
    pub way : (forks : List Fork) (end : HubState R) → GoesTo m forks end → GoesTo h forks end

  pub settles : (ready : List (ℕ × Answer)) (asked : List Waiter) (last : List (Option R)) (h : HubState R) → h.ready ≡ ready → h.out ≡ [] → IsKept h
      → stop_of h ≡ None → AskAll ready h.routines asked last → NoneIsBad h.decls h.events h.waiting asked → Settles h asked last
  settles [] asked last h idle out kept on (none, is) fine = record {
    m = h;
    settled = subst (λ ws. Settled h ws h) (sym none) (settled_at_once h idle out (none_bad h on));
    routines = sym is;
    kept = kept;
    way = λ forks end way. way;
  }
  settles (r ∷ ready) asked last h is out kept on (routine, next, question, rest, there, does, first, more) fine =
      let parts : NoneIsBad h.decls h.events h.waiting (asker r.0 question ∷ rest) = subst (λ ws. NoneIsBad h.decls h.events h.waiting ws) first fine in
      let alive : is_deadlock h ≡ false = ap (λ (l : List (ℕ × Answer)). (length l == 0) && ((length h.out == 0) && (length (choices_of h) == 0))) is
      ∙ somebody_ready (length ready) ((length h.out == 0) && (length (choices_of h) == 0)) in
      let made = turn_made asks h r.0 r.1 ready routine question next out (runs_while h on alive) is there kept does in
      let t = made.turns in
      let (decls, events, limit) = t.same in
      let bad : made.m.bad ≡ h.bad = t.bad ∙ ap (λ b. if b then Some r.0 else h.bad) parts.0 in
      let again = settles ready rest last made.m made.ready t.out (turn_kept asks h made.m out made.turn kept) ((λ i. stop_by (events i) (limit i) (bad i)) ∙ on)
      (subst (λ rs. AskAll ready rs rest last) (sym t.routines) more)
      (subst (λ ws. NoneIsBad made.m.decls made.m.events ws rest) (sym t.waiting)
      (subst (λ es. NoneIsBad made.m.decls es (h.waiting ++ asker r.0 question ∷ []) rest) (sym events)
      (subst (λ d. NoneIsBad d h.events (h.waiting ++ asker r.0 question ∷ []) rest) (sym decls) parts.1))) in
      record {
        m = again.m;
        settled = subst (λ ws. Settled h ws again.m) (sym first) (settled_more h made.m again.m r.0 question next rest t parts.0 again.settled);
        routines = again.routines;
        kept = again.kept;
        way = λ forks end way. turned made.turn (again.way forks end way);
      }
    where
      somebody_ready : (n : ℕ) (b : Bool) → ((suc n == 0) && b) ≡ false
      somebody_ready n b = let none : (suc n == 0) ≡ false = grind (arith, nat_tests) in ap (λ c. c && b) none
