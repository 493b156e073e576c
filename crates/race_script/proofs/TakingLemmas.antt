-- One more request of the body that has not ended.
use Rattle.std.proofs.Common.{◌≡◌, ℕ, ◌+◌, ◌<◌, ◌≤◌, ◌==◌, ◌&&◌, ◌||◌, Bool, true, false, true≢false, not, nat_lt}
use Rattle.std.proofs.Common.{nat_le, if◌then◌else◌, List, [], ◌∷◌, ◌++◌, length, map, fold, unwrap_or, Option, Some}
use Rattle.std.proofs.Common.{None, IfSome, refl, sym, ap, subst, ◌∙◌, arith, append-nil, append_assoc, is_some}
use Rattle.std.proofs.{Common.{is_none, ◌⊎◌, inl, inr, Ok, Err}, lemmas.Bool.Decides.nat_tests}
use Rattle.std.proofs.lemmas.List.{length-append, length-map, map-append, Folds.list_all-append, Sums.fold-append}
use Rattle.std.proofs.lemmas.{Grind.flat_map-append, Option.{none-some, same_Some, slice_get_within}}
use Rattle.std.specs.{List.{list_all, flat_map}, Prelude.reverse, Option.{option_and_then, option_map_or}}
use Rattle.race_records.specs.declared.{declarations.{DeclFault.DeclFault, TheConstants.MAX_PLACES}, kind.Kind.Kind}
use Rattle.race_records.specs.Declarations.{DeclsState, count_of, is_known, place_fault, place_number}
use Rattle.race_records.specs.{Declarations.{with_place as with_place_in}, Name.is_place}
use Rattle.race_records.{specs.Refusal.{Refuses, AllowsUnless}, proofs.PlaceLemmas.with_place_well_formed}
use Rattle.race_requests.specs.{declared.request.{Ask.Ask, Request.Request}, Sound.has_ask}
use Rattle.race_text.{specs.declared.cause.TextCause.TextCause, proofs.CauseLemmas.and_then_some}
use Rattle.race_text.proofs.{PlacesAdded.{place_is_there, place_stays, place_grows}, WordLemmas.both}
use Rattle.race_script.specs.{declared.program.TheConstants.MAX_STEPS, Bodies.{is_exit, after_ask, onces_after, ends}}
use Rattle.race_script.specs.{Bodies.is_body, Fault.{has_no_room, follow_cause, may_follow, may_begin, asked_cause, said_cause}}
use Rattle.race_script.specs.Program.{Instruction, Draft, asks_of, asked_by, ask_fits, request_fits, is_body_of}
use Rattle.race_script.specs.{Program.{instruction, spelled, bodies_of, with_place, places_of}, Reader.UnendedState}
use Rattle.race_script.specs.Reader.{ReadState, spelled_unended, draft_read, IsUnended, IsSound, TakesSaid, Adds, added_cause}
use Rattle.race_script.{specs.{Reading.{with_instruction}, Text.{Begins, Asks}}, proofs.{LineLemmas.grown, CourseLemmas.asks_spelled}}

-- the asks go on where others left
pub onces_more : (onces : List ℕ) (asks : List Ask) (ask : Ask)
    → onces_after onces (asks ++ ask ∷ []) ≡ option_and_then (λ inside. after_ask inside ask) (onces_after onces asks)
onces_more onces [] ask = by (after_ask onces ask)
  where
    by : (o : Option (List ℕ)) → option_and_then (λ inside. Some inside) o ≡ o
    by None = refl
    by (Some inside) = refl
onces_more onces (a ∷ more) ask = by (after_ask onces a) (λ inside. onces_more inside more ask)
  where
    by : (o : Option (List ℕ)) → ((inside : List ℕ)
        → onces_after inside (more ++ ask ∷ []) ≡ option_and_then (λ inside. after_ask inside ask) (onces_after inside more))
        → option_and_then (λ inside. onces_after inside (more ++ ask ∷ [])) o
        ≡ option_and_then (λ inside. after_ask inside ask) (option_and_then (λ inside. onces_after inside more) o)
    by None rest = refl
    by (Some inside) rest = rest inside

no_exit : (onces inside : List ℕ) (ask : Ask) → after_ask onces ask ≡ Some inside → is_exit ask ≡ false
no_exit onces inside Ask.Exit h = absurd (none-some inside h)
no_exit onces inside (Ask.Go g) h = refl
no_exit onces inside _ h = refl

pub ends_after : (onces inside : List ℕ) (asks rest : List Ask) → onces_after onces asks ≡ Some inside → ends onces (asks ++ rest) ≡ ends inside rest
ends_after onces inside [] rest h = ap (λ o. ends o rest) (same_Some onces inside h)
ends_after onces inside (ask ∷ asks) rest h =
    let first = and_then_some (λ o. onces_after o asks) (after_ask onces ask) inside h in
    ap (λ b. if b then (length onces == 0) && (length (asks ++ rest) == 0) else option_map_or (λ o. ends o (asks ++ rest)) (after_ask onces ask) false)
    (no_exit onces first.0 ask first.1)
    ∙ ap (λ o. option_map_or (λ inside. ends inside (asks ++ rest)) o false) first.1
    ∙ ends_after first.0 inside asks rest first.2

-- an exit where no function is open ends the body
pub body_ends : (asks : List Ask) (inside : List ℕ) (ask : Ask) → onces_after [] asks ≡ Some inside → is_exit ask ≡ true → may_follow (Some inside) ask ≡ true
    → is_body (asks ++ ask ∷ []) ≡ true
body_ends asks inside ask h exit follows =
    ends_after [] inside asks (ask ∷ []) h
    ∙ ap (λ b. if b then (length inside == 0) && true else option_map_or (λ o. ends o []) (after_ask inside ask) false) exit
    ∙ empty (length inside == 0) (sym (ap (λ b. if b then length inside == 0 else is_some (after_ask inside ask)) exit) ∙ follows)
  where
    empty : (b : Bool) → b ≡ true → (b && true) ≡ true
    empty true e = refl
    empty false e = absurd (true≢false (sym e))

module _ (decls : DeclsState) (word : List ℕ) where
  abbrev more : DeclsState
  more = with_place_in decls word

  request_stays : (r : Request) → request_fits decls r ≡ true → (request_fits more r ≡ true) × (instruction more.places r ≡ instruction decls.places r)
  request_stays r h =
      let two = both (has_ask decls.version r.ask && ask_fits decls.declarations r.ask) (nat_lt r.place (length decls.places)) h in
      let less : r.place < length decls.places = grind (arith, nat_tests, two.1) in
      let grows = (place_grows decls word).0 in
      let within : nat_lt r.place (length more.places) ≡ true = grind (arith, nat_tests, less, grows) in (
        λ k. two.0 k && within k,
        λ k. record { ask = r.ask; place = unwrap_or (place_stays decls word r.place less k) [] },
      )

  pub requests_stay : (body : List Request) → list_all (request_fits decls) body ≡ true
      → (list_all (request_fits more) body ≡ true) × (spelled more.places body ≡ spelled decls.places body)
  requests_stay [] h = (refl, refl)
  requests_stay (r ∷ rs) h =
      let two = both (request_fits decls r) (list_all (request_fits decls) rs) h in
      let first = request_stays r two.0 in
      let rest = requests_stay rs two.1 in
      (λ k. first.0 k && rest.0 k, λ k. first.1 k ∷ rest.1 k)

  body_stays : (body : List Request) → is_body_of decls body ≡ true → (is_body_of more body ≡ true) × (spelled more.places body ≡ spelled decls.places body)
  body_stays body h =
      let three = both (list_all (request_fits decls) body && is_body (asks_of body)) (nat_le (length body) MAX_STEPS) h in
      let two = both (list_all (request_fits decls) body) (is_body (asks_of body)) three.0 in
      let stay = requests_stay body two.0 in
      (λ k. stay.0 k && two.1 k && three.1 k, stay.1)

  pub bodies_stay : (bodies : List (List Request)) → list_all (is_body_of decls) bodies ≡ true
      → (list_all (is_body_of more) bodies ≡ true) × (map (spelled more.places) bodies ≡ map (spelled decls.places) bodies)
  bodies_stay [] h = (refl, refl)
  bodies_stay (b ∷ bs) h =
      let two = both (is_body_of decls b) (list_all (is_body_of decls) bs) h in
      let first = body_stays b two.0 in
      let rest = bodies_stay bs two.1 in
      (λ k. first.0 k && rest.0 k, λ k. first.1 k ∷ rest.1 k)

-- the places with those of one more instruction
pub places_grown : (d : Draft) (i : Instruction) (body : List Instruction) (b : Bool)
    → d.unended ≡ Some body → places_of (grown d i body b) ≡ with_place (places_of d) i.place
places_grown d i body b is =
    ap (fold step []) (all b)
    ∙ fold-append step [] (flat_map (λ x. x) (d.ended ++ body ∷ [])) (i ∷ [])
    ∙ ap (λ o. with_place (fold step [] (flat_map (λ x. x) (option_map_or (λ (body : List Instruction). d.ended ++ body ∷ []) o d.ended))) i.place) (sym is)
  where
    step : List (List ℕ) → Instruction → List (List ℕ)
    step places i = with_place places i.place

    one : flat_map (λ x. x) (d.ended ++ (body ++ i ∷ []) ∷ []) ≡ flat_map (λ x. x) (d.ended ++ body ∷ []) ++ i ∷ []
    one =
        flat_map-append (λ x. x) d.ended ((body ++ i ∷ []) ∷ []) ∙ ap (λ l. flat_map (λ x. x) d.ended ++ l) (append-nil (body ++ i ∷ []))
        ∙ sym (append_assoc (flat_map (λ x. x) d.ended) body (i ∷ []))
        ∙ ap (λ l. (flat_map (λ x. x) d.ended ++ l) ++ i ∷ []) (sym (append-nil body))
        ∙ ap (λ l. l ++ i ∷ []) (sym (flat_map-append (λ x. x) d.ended (body ∷ [])))

    all : (b : Bool) → flat_map (λ x. x) (bodies_of (grown d i body b)) ≡ flat_map (λ x. x) (d.ended ++ body ∷ []) ++ i ∷ []
    all true = one
    all false = one

-- there is room for a place that isn't refused
pub room_is : (places : List (List ℕ)) (word : List ℕ) → is_place word ≡ true → place_fault places word ≡ None → has_no_room places word ≡ false
unfolding place_fault
room_is places word form h = by (is_place word) form (is_known places word) (nat_le MAX_PLACES (length places)) h
  where
    by : (a : Bool) → a ≡ true → (b c : Bool)
        → ◌≡◌ {A = Option DeclFault} (if not a then Some DeclFault.BadName else (if b then None else (if c then Some DeclFault.TooMany else None))) None
        → (not b && c) ≡ false
    by true e true c h = refl
    by true e false true h = absurd (none-some DeclFault.TooMany (sym h))
    by true e false false h = refl
    by false e b c h = absurd (true≢false (sym e))

module _ (s : ReadState) (sound : IsSound s) (u : UnendedState) (is : s.unended ≡ Some u) (i : Instruction)
    (fits : ask_fits s.decls.declarations i.ask ≡ true) (form : is_place i.place ≡ true) where
  abbrev d : Draft
  d = draft_read s

  abbrev grown_decls : DeclsState
  grown_decls = with_place_in s.decls i.place

  abbrev request : Request
  request = record { ask = i.ask; place = place_number s.decls.places i.place }

  abbrev requests : List Request
  requests = u.requests ++ request ∷ []

  abbrev body : List Instruction
  body = spelled s.decls.places u.requests

  unended : IsUnended s.decls u
  unended = subst (λ (o : Option UnendedState). IfSome o (IsUnended s.decls)) is sound.unended

  pub body_is : d.unended ≡ Some body
  body_is = ap (spelled_unended s.decls.places) is

  asked_open : onces_after [] (asked_by body) ≡ Some (reverse u.onces)
  asked_open = ap (onces_after []) (asks_spelled s.decls.places u.requests) ∙ unended.nest

  -- the cause, by what the body has
  pub asked_cause_is : said_cause d (Asks i) ≡ added_cause s.decls u i
  asked_cause_is =
      ap (asked_cause d i) body_is
      ∙ (λ k. if nat_le MAX_STEPS (length-map u.requests (instruction s.decls.places) k) || has_no_room (sound.places k) i.place
      then Some TextCause.TooMany else follow_cause (asked_open k) i.ask)

  pub no_cause : {more : DeclsState} {v : UnendedState} → Adds s.decls u i more v → said_cause d (Asks i) ≡ None
  no_cause adds =
      let few = adds.few in
      let low : nat_le MAX_STEPS (length u.requests) ≡ false = grind (arith, nat_tests, few) in
      asked_cause_is ∙ (λ k. if low k || room_is s.decls.places i.place form adds.room k then Some TextCause.TooMany
      else (if adds.pushes.follows k then None else Some TextCause.BadBlock))

  module _ (known : has_ask s.decls.version i.ask ≡ true) {more : DeclsState} {v : UnendedState} (adds : Adds s.decls u i more v) where
    stay : (list_all (request_fits grown_decls) u.requests ≡ true) × (spelled grown_decls.places u.requests ≡ body)
    stay = requests_stay s.decls i.place u.requests unended.fit

    ended_stay : (list_all (is_body_of grown_decls) s.ended ≡ true) × (map (spelled grown_decls.places) s.ended ≡ d.ended)
    ended_stay = bodies_stay s.decls i.place s.ended sound.ended

    request_is : instruction grown_decls.places request ≡ i
    request_is = λ k. record { ask = i.ask; place = ap (λ o. unwrap_or o []) (place_is_there s.decls i.place) k }

    request_there : request_fits grown_decls request ≡ true
    request_there =
        let within = slice_get_within grown_decls.places request.place i.place (place_is_there s.decls i.place) in
        let less : nat_lt request.place (length grown_decls.places) ≡ true = grind (arith, nat_tests, within) in
        λ k. known k && fits k && less k

    spelled_more : spelled grown_decls.places requests ≡ body ++ i ∷ []
    spelled_more = map-append (instruction grown_decls.places) u.requests (request ∷ []) ∙ (λ k. stay.1 k ++ request_is k ∷ [])

    all_fit : list_all (request_fits grown_decls) requests ≡ true
    all_fit = list_all-append (request_fits grown_decls) u.requests (request ∷ []) ∙ (λ k. stay.0 k && (request_there k && true))

    asks_more : asks_of requests ≡ asks_of u.requests ++ i.ask ∷ []
    asks_more = map-append (λ (r : Request). r.ask) u.requests (request ∷ [])

    len_more : length requests ≡ length u.requests + 1
    len_more = length-append u.requests (request ∷ [])

    few_bodies : (b : Bool) → length (bodies_of (grown d i body b)) ≤ count_of Kind.Goroutine s.decls.declarations
    few_bodies b =
        let before = ap (λ o. length (option_map_or (λ (x : List Instruction). d.ended ++ x ∷ []) o d.ended)) body_is in
        let few = sound.few in
        let one = length-append d.ended (body ∷ []) in
        by b (omega (arith, before, few, one))
      where
        by : (b : Bool) → length d.ended + 1 ≤ count_of Kind.Goroutine s.decls.declarations
            → length (bodies_of (grown d i body b)) ≤ count_of Kind.Goroutine s.decls.declarations
        by true low = let n = length-append d.ended ((body ++ i ∷ []) ∷ []) in omega (arith, n, low)
        by false low = let n = length-append d.ended ((body ++ i ∷ []) ∷ []) in omega (arith, n, low)

    -- with its place, and these bodies
    abbrev made : List (List Request) → Option UnendedState → ReadState
    made ended left = record { has_header = true; decls = grown_decls; ended = ended; unended = left }

    finish : (b : Bool) (ended : List (List Request)) (left : Option UnendedState) → is_exit i.ask ≡ b → draft_read (made ended left) ≡ grown d i body b
        → list_all (is_body_of grown_decls) ended ≡ true → IfSome left (IsUnended grown_decls) → TakesSaid s (Asks i) (made ended left)
    finish b ended left e draft bodies fine =
        record {
          header = refl;
          no_cause = no_cause adds;
          draft = draft ∙ sym (ap (with_instruction d i) body_is ∙ ap (grown d i body) e);
          sound = record {
            well_formed = with_place_well_formed s.decls i.place sound.well_formed adds.room;
            ended = bodies;
            unended = fine;
            places = ap places_of draft ∙ places_grown d i body b body_is ∙ ap (λ places. with_place places i.place) sound.places;
            few =
                let low = few_bodies b in
                let same = ap (λ (x : Draft). length (bodies_of x)) draft in
                omega (arith, low, same);
          };
        }

    -- an exit ends the body
    pub ended_taken : is_exit i.ask ≡ true → TakesSaid s (Asks i) (made (s.ended ++ requests ∷ []) None)
    ended_taken exit =
        finish true (s.ended ++ requests ∷ []) None exit
        (λ k. record {
          version = s.decls.version;
          declarations = s.decls.declarations;
          ended = (map-append (spelled grown_decls.places) s.ended (requests ∷ []) ∙ (λ j. ended_stay.1 j ++ spelled_more j ∷ [])) k;
          unended = None;
        })
        (list_all-append (is_body_of grown_decls) s.ended (requests ∷ []) ∙ (λ k. ended_stay.0 k && (whole k && true))) tt
      where
        whole : is_body_of grown_decls requests ≡ true
        whole =
            let body_ok : is_body (asks_of requests) ≡ true = ap is_body asks_more
            ∙ body_ends (asks_of u.requests) (reverse u.onces) i.ask unended.nest exit adds.pushes.follows in
            let few_ok : nat_le (length requests) MAX_STEPS ≡ true = grind (arith, nat_tests, adds.few, len_more) in
            λ k. all_fit k && body_ok k && few_ok k

    -- anything else lets it go on
    pub more_taken : is_exit i.ask ≡ false → TakesSaid s (Asks i) (made s.ended (Some (record { requests = requests; onces = v.onces })))
    more_taken other =
        finish false s.ended (Some (record { requests = requests; onces = v.onces })) other
        (λ k. record { version = s.decls.version; declarations = s.decls.declarations; ended = ended_stay.1 k; unended = Some (spelled_more k) })
        ended_stay.0 (record {
          fit = all_fit;
          nest = ap (onces_after []) asks_more ∙ onces_more [] (asks_of u.requests) i.ask
              ∙ ap (option_and_then (λ inside. after_ask inside i.ask)) unended.nest ∙ adds.pushes.entered other;
          few = let few = adds.few in omega (arith, few, len_more);
        })

-- a body that begins
pub begin_taken : (s : ReadState) (sound : IsSound s) (g : ℕ) → g < count_of Kind.Goroutine s.decls.declarations → may_begin (draft_read s) g ≡ true
    → TakesSaid s (Begins g) (record { has_header = true; decls = s.decls; ended = s.ended; unended = Some (record { requests = []; onces = [] }) })
begin_taken s sound g less may =
    let d = draft_read s in
    let two = both (is_none d.unended) (length d.ended == g) may in
    let same : length d.ended ≡ g = grind (arith, nat_tests, two.1) in
    let none : bodies_of d ≡ d.ended = not_begun d.unended two.0 d in
    let all : flat_map (λ x. x) (d.ended ++ [] ∷ []) ≡ flat_map (λ x. x) (bodies_of d) =
    flat_map-append (λ x. x) d.ended ([] ∷ []) ∙ append-nil (flat_map (λ x. x) d.ended) ∙ ap (flat_map (λ x. x)) (sym none) in
    record {
      header = refl;
      no_cause = ap (λ b. if b then None else Some TextCause.BadBlock) may;
      draft = refl;
      sound = record {
        well_formed = sound.well_formed;
        ended = sound.ended;
        unended = record { fit = refl; nest = refl; few = omega arith };
        places = ap (fold (λ (places : List (List ℕ)) (i : Instruction). with_place places i.place) []) all ∙ sound.places;
        few = let one = length-append d.ended ([] ∷ []) in omega (arith, one, same, less);
      };
    }
  where
    not_begun : (o : Option (List Instruction)) → is_none o ≡ true → (d : Draft)
        → option_map_or (λ (body : List Instruction). d.ended ++ body ∷ []) o d.ended ≡ d.ended
    not_begun None h d = refl
    not_begun (Some body) h d = absurd (true≢false (sym h))

-- the fault of a place, by the tests
abbrev place_fault_by : Bool → Bool → Bool → Option DeclFault
place_fault_by a b c = if not a then Some DeclFault.BadName else (if b then None else (if c then Some DeclFault.TooMany else None))

-- a place is refused since it finds no room, and else for want of memory
pub place_told : (places : List (List ℕ)) (word : List ℕ) → is_place word ≡ true
    → (refused : DeclFault) → Refuses {T = ℕ} (place_fault places word) (Err refused)
    → AllowsUnless {T = ℕ} (place_fault places word) (Err refused) DeclFault.OutOfMemory
    → ((has_no_room places word ≡ true) × (refused ≡ DeclFault.TooMany)) ⊎ ((has_no_room places word ≡ false) × (refused ≡ DeclFault.OutOfMemory))
unfolding place_fault
place_told places word form refused refuses allows = by (is_place word) form (is_known places word) (nat_le MAX_PLACES (length places)) refuses allows
  where
    by : (a : Bool) → a ≡ true → (b c : Bool) → Refuses {T = ℕ} (place_fault_by a b c) (Err refused)
        → AllowsUnless {T = ℕ} (place_fault_by a b c) (Err refused) DeclFault.OutOfMemory
        → (((not b && c) ≡ true) × (refused ≡ DeclFault.TooMany)) ⊎ (((not b && c) ≡ false) × (refused ≡ DeclFault.OutOfMemory))
    by true e true c refuses allows = inr (refl, allows refl)
    by true e false false refuses allows = inr (refl, allows refl)
    by true e false true refuses allows = let told = refuses DeclFault.TooMany refl in let same : refused ≡ DeclFault.TooMany = cc in inl (refl, same)
    by false e b c refuses allows = absurd (true≢false (sym e))

pub not_refused : (fault : Option DeclFault) (n : ℕ) → Refuses {T = ℕ} fault (Ok n) → fault ≡ None
not_refused None n h = refl
not_refused (Some f) n h = let wrong = h f refl in absurd (cc)
