-- Among stamps with their clocks, known is happens before.
use Rattle.std.proofs.Common.{◌≡◌, ◌↔◌, ℕ, ◌+◌, ◌<◌, ◌≤◌, List, [], ◌∷◌, ◌++◌, take, length, slice_get, sym, ap, ◌∙◌}
use Rattle.std.proofs.{Common.{subst, inl, inr, arith, IsTrue, take-take}, lemmas.Bool.cases_order}
use Rattle.std.proofs.lemmas.List.{length-take-le, take_more, Sums.sum_by-take-le}
use Rattle.std.proofs.lemmas.Option.{slice_get_within, get_or_from_slice_get}
use Rattle.race_records.specs.declared.event.Event.{Event}
use Rattle.race_model.specs.{Events.{At, TakesPart, takes_part, is_access}, Order.{Begin, Reaches, one_step}}
use Rattle.race_model.specs.{Order.HappensBefore, Clocks.{participations, CountsBegins}}
use Rattle.race_model.proofs.{Indexes.{slice_get-take, take_at_old}, Ranks.{reaches_up, happens_before_up}}
use Rattle.race_model.proofs.{Reaching.who_takes_part, BeforeSeen.{front_reaches, front_grow, happens_before_on}}
use Rattle.race_model.proofs.StampOrder.{known_from_before, before_from_known}

-- the stamp of an access, with its clock, among the events: who, and number `count` of its goroutine's events; the clock
-- counts the begins that reach the access's begin
pub record IsStamped (caps : ℕ → ℕ) (events : List Event) (at who count : ℕ) (c : ℕ → ℕ) : Type 0 where
  pub event : Event
  pub stands : At events at event
  pub access : IsTrue (is_access event.op)
  pub actor : event.who ≡ who
  pub number : count ≡ participations who (take at events) + 1
  pub clock : CountsBegins (take (at + 1) events) c (λ i h. Reaches caps (take (at + 1) events) (Begin i h) (Begin at who))

module _ (caps : ℕ → ℕ) (events : List Event) where
  -- an event behind those before it
  pub front_one : (j : ℕ) (e : Event) → At events j e → take (j + 1) events ≡ take j events ++ e ∷ []
  front_one j e at = take_more events j e (slice_get_within events j e at) ∙ ap (λ x. take j events ++ x ∷ []) (get_or_from_slice_get events j e e at)

  -- fewer events have fewer parts
  parts_up : (h m n : ℕ) → m ≤ n → participations h (take m events) ≤ participations h (take n events)
  parts_up h m n le = subst (λ es. participations h es ≤ participations h (take n events)) (take-take m n events le) (sum_by-take-le (λ e. _) (take n events) m)

  module _ (i g n : ℕ) (a : ℕ → ℕ) (A : IsStamped caps events i g n a) (j h m : ℕ) (b : ℕ → ℕ) (B : IsStamped caps events j h m b) where
    -- the later one's clock, over the events before it and itself
    later_clock : CountsBegins (take j events ++ B.event ∷ []) b
        (λ k x. Reaches caps (take j events ++ B.event ∷ []) (Begin k x) (Begin (length (take j events)) B.event.who))
    later_clock =
        let long : length (take j events) ≡ j =
        length-take-le j events (let less : j < length events = slice_get_within events j B.event B.stands in omega arith) in
        subst (λ l. CountsBegins (take j events ++ B.event ∷ []) b
        (λ k x. Reaches caps (take j events ++ B.event ∷ []) (Begin k x) (Begin l B.event.who))) (sym long)
        (subst (λ h. CountsBegins (take j events ++ B.event ∷ []) b (λ k x. Reaches caps (take j events ++ B.event ∷ []) (Begin k x) (Begin j h))) (sym B.actor)
        (subst (λ es. CountsBegins es b (λ k x. Reaches caps es (Begin k x) (Begin j h))) (front_one j B.event B.stands) B.clock))

    -- as many participations stand before the earlier one in the front as in the list
    same_number : i < j → participations A.event.who (take i (take j events)) + 1 ≡ n
    same_number less = ap (λ es. participations A.event.who es + 1) (take-take i j events (omega arith))
        ∙ ap (λ g. participations g (take i events) + 1) A.actor ∙ sym A.number

    -- happens before is the same in the front up to the later one
    front_of_before : HappensBefore caps events i j → HappensBefore caps (take (j + 1) events) i j
    front_of_before (x, y, atx, aty, w) =
        let less : i < j = happens_before_up caps events i j (x, y, atx, aty, w) in
        let within : j < length events = slice_get_within events j B.event B.stands in
        let at_i : At (take (j + 1) events) i x = slice_get-take (j + 1) events i (omega arith) ∙ atx in
        let at_j : At (take (j + 1) events) j y = slice_get-take (j + 1) events j (omega arith) ∙ aty in
        (x, y, at_i, at_j, front_reaches caps events (j + 1) (omega arith) (omega arith) w)

    before_of_front : HappensBefore caps (take (j + 1) events) i j → HappensBefore caps events i j
    before_of_front (x, y, atx, aty, w) = (x, y, take_at_old (j + 1) events i x atx, take_at_old (j + 1) events j y aty, front_grow caps events (j + 1) w)

    -- the two ways to write that front
    front_is : HappensBefore caps (take (j + 1) events) i j ≡ HappensBefore caps (take j events ++ B.event ∷ []) i (length (take j events))
    front_is =
        let long : length (take j events) ≡ j =
        length-take-le j events (let less : j < length events = slice_get_within events j B.event B.stands in omega arith) in
        ap (λ es. HappensBefore caps es i j) (front_one j B.event B.stands) ∙ ap (λ l. HappensBefore caps (take j events ++ B.event ∷ []) i l) (sym long)

    -- the later of two knows the earlier exactly where that happens before
    known_earlier : i < j → (n ≤ b g) ↔ HappensBefore caps events i j
    known_earlier less = (
      (λ known. before_of_front (subst (λ X. X) (sym front_is)
          (before_from_known caps (take j events) B.event b later_clock i A.event at_a A.access (
          let same : participations A.event.who (take i (take j events)) + 1 ≡ n = same_number less in
          let who : b A.event.who ≡ b g = ap b A.actor in
          omega (arith, same, who, known)
          )))),
      (λ before.
          let known : participations A.event.who (take i (take j events)) + 1 ≤ b A.event.who =
          known_from_before caps (take j events) B.event b later_clock i A.event at_a (subst (λ X. X) front_is (front_of_before before)) in
          let same : participations A.event.who (take i (take j events)) + 1 ≡ n = same_number less in
          let who : b A.event.who ≡ b g = ap b A.actor in
          omega (arith, known, same, who)),
    )
      where
        at_a : At (take j events) i A.event
        at_a = slice_get-take j events i less ∙ A.stands

    -- no stamp knows a later one, or itself
    known_later : j ≤ i → n ≤ b g → ⊥
    known_later le known = elim (cases_order i j) [
      | inl same ↦ itself same
      | inr (inl less) ↦ omega arith
      | inr (inr more) ↦
          let bound : b g ≤ participations g (take (j + 1) events) = B.clock.bound g in
          let up : participations g (take (j + 1) events) ≤ participations g (take i events) = parts_up g (j + 1) i (omega arith) in
          let number : n ≡ participations g (take i events) + 1 = A.number in
          omega (arith, bound, up, number, known)
    ]
      where
        itself : i ≡ j → ⊥
        itself same =
            let part : TakesPart (take (j + 1) events) j g =
            let at_j : At (take (j + 1) events) j A.event = slice_get-take (j + 1) events j (omega arith) ∙ ap (slice_get events) (sym same) ∙ A.stands in
            (A.event, at_j, subst (λ g. IsTrue (takes_part g A.event)) A.actor (who_takes_part A.event)) in
            let front : participations g (take j (take (j + 1) events)) ≡ participations g (take i events) =
            ap (participations g) (take-take j (j + 1) events (omega arith) ∙ ap (λ k. take k events) (sym same)) in
            let number : n ≡ participations g (take i events) + 1 = A.number in
            let w : Reaches caps (take (j + 1) events) (Begin j g) (Begin j h) = B.clock.only j g part (omega (arith, front, number, known)) in
            let up : j + j < j + j = reaches_up w in
            omega (arith, up)

    pub known_is_before : (n ≤ b g) ↔ HappensBefore caps events i j
    known_is_before = elim (cases_order i j) [
      | inl same ↦ (
        λ known. absurd (known_later (omega arith) known),
        λ before. let up : i < j = happens_before_up caps events i j before in absurd (omega arith),
      )
      | inr (inl less) ↦ known_earlier less
      | inr (inr more) ↦ (
        λ known. absurd (known_later (omega arith) known),
        λ before. let up : i < j = happens_before_up caps events i j before in absurd (omega arith),
      )
    ]

  -- an earlier stamp of the same goroutine is known to a later one
  pub known_own : (i g n : ℕ) (a : ℕ → ℕ) → IsStamped caps events i g n a → (j h m : ℕ) (b : ℕ → ℕ) → IsStamped caps events j h m b → g ≡ h → i < j → n ≤ b g
  known_own i g n a A j h m b B same less =
      (known_is_before i g n a A j h m b B).1 (
        A.event,
        B.event,
        A.stands,
        B.stands,
        one_step (inl (less, A.actor ∙ same ∙ sym B.actor, (A.event, A.stands, who_takes_part A.event), (B.event, B.stands, who_takes_part B.event))),
      )

  -- no later stamp is known to an earlier one
  pub known_not_back : (i g n : ℕ) (a : ℕ → ℕ) → IsStamped caps events i g n a → (j h m : ℕ) (b : ℕ → ℕ) → IsStamped caps events j h m b → i < j → m ≤ a h → ⊥
  known_not_back i g n a A j h m b B less known =
      let up : j < i = happens_before_up caps events j i ((known_is_before j h m b B i g n a A).0 known) in
      omega (arith, up)

  -- known is transitive
  pub known_on : (i g n : ℕ) (a : ℕ → ℕ) → IsStamped caps events i g n a → (j h m : ℕ) (b : ℕ → ℕ) → IsStamped caps events j h m b → (k f l : ℕ) (c : ℕ → ℕ)
      → IsStamped caps events k f l c
      → n ≤ b g → m ≤ c h → n ≤ c g
  known_on i g n a A j h m b B k f l c C first second =
      (known_is_before i g n a A k f l c C).1
      (happens_before_on caps events i j k ((known_is_before i g n a A j h m b B).0 first) ((known_is_before j h m b B k f l c C).0 second))
