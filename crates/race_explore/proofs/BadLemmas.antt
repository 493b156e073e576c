-- Requests that aren't bad beside some aren't bad beside others, where these don't ask to start more goroutines.
use Rattle.std.proofs.Common.{ℕ, zero, suc, ◌≡◌, ◌==◌, ◌++◌, ◌||◌, ◌⊎◌, not, Bool, true, false, if◌then◌else◌, List, [], ◌∷◌}
use Rattle.std.proofs.Common.{Option, Some, None, is_some, refl, sym, ap, ◌∙◌, subst, slice_get, inl, inr, true≢false, eq-eqb, eqb-true}
use Rattle.std.proofs.lemmas.{Option.{none-some, same_Some}}
use Rattle.std.specs.List.{list_any}
use Rattle.race_model.specs.{Events.gives, State.{started, innermost}}
use Rattle.race_records.specs.declared.event.{Event.Event, Op.{TheVariants.Go}}
use Rattle.race_records.specs.Declarations.{DeclsState}
use Rattle.race_requests.specs.declared.request.{Answer.Answer, Ask.Ask, Offer.Offer, Request.Request, Waiter.Waiter}
use Rattle.race_requests.specs.{Sound.{is_sound, is_out_of_turn, is_bad_among, asks_to_start}, Table.{told_if, told_offer, IsRow}}
use Rattle.race_explore.proofs.WaiterLemmas.{IsIn, in_more, first_in, any_in, any_from}
use Rattle.race_explore.proofs.TupleLemmas.{in_left, in_right, in_either}
use Rattle.race_explore.proofs.{SettleLemmas.{NoneIsBad, AllPass, AskAll}, TurnLemmas.asker}

-- g was started, or somebody asks to start it
abbrev pub IsToStart : ℕ → List Event → List Waiter → Type 0
IsToStart g past ws = (started g past ≡ true) ⊎ ((v : Waiter) × IsIn v ws × (asks_to_start g v.asked.ask ≡ true))

to_start_more : (g : ℕ) (past : List Event) (ws : List Waiter) (w : Waiter) → IsToStart g past ws → IsToStart g past (ws ++ w ∷ [])
to_start_more g past ws w (inl is) = inl is
to_start_more g past ws w (inr (v, there, asks)) = inr (v, in_left v ws (w ∷ []) there, asks)

-- more than before isn't to start behind these events and beside these requests
pub record StartNoMore (past later : List Event) (ws vs asked : List Waiter) : Type 0 where
  pub events : (w : Waiter) (g : ℕ) → IsIn w asked → asks_to_start g w.asked.ask ≡ true → started g later ≡ true → IsToStart g past ws
  pub requests : (w v : Waiter) (g : ℕ) → IsIn w asked → asks_to_start g w.asked.ask ≡ true → IsIn v vs → asks_to_start g v.asked.ask ≡ true
      → IsToStart g past ws

start_no_more : (past later : List Event) (ws vs asked : List Waiter) (w : Waiter) → StartNoMore past later ws vs (w ∷ asked)
    → StartNoMore past later (ws ++ w ∷ []) (vs ++ w ∷ []) asked
start_no_more past later ws vs asked w no_more = record {
  events = λ x g there asks is. to_start_more g past ws w (no_more.events x g (in_more x w asked there) asks is);
  requests = λ x v g there asks v_there v_asks. by x v g there asks v_asks (in_either v vs (w ∷ []) v_there);
}
  where
    by : (x v : Waiter) (g : ℕ) → IsIn x asked → asks_to_start g x.asked.ask ≡ true → asks_to_start g v.asked.ask ≡ true
        → IsIn v vs ⊎ IsIn v (w ∷ []) → IsToStart g past (ws ++ w ∷ [])
    by x v g there asks v_asks (inl old) = to_start_more g past ws w (no_more.requests x v g (in_more x w asked there) asks old v_asks)
    by x v g there asks v_asks (inr last) = inr (v, in_right v ws (w ∷ []) last, v_asks)

pub or_cases : (a b : Bool) → (a || b) ≡ true → (a ≡ true) ⊎ (b ≡ true)
or_cases true b is = inl refl
or_cases false b is = inr is

or_left : (a b : Bool) → a ≡ true → (a || b) ≡ true
or_left a b is = ap (λ c. c || b) is

or_right : (a b : Bool) → b ≡ true → (a || b) ≡ true
or_right true b is = refl
or_right false b is = is

false_by : (a b : Bool) → (b ≡ true → a ≡ true) → a ≡ false → b ≡ false
false_by a true back is = absurd (true≢false (sym (back refl) ∙ is))
false_by a false back is = refl

module _ (past later : List Event) (ws vs : List Waiter) where
  out_of_turn : (w : Waiter) (asked : List Waiter) → StartNoMore past later ws vs asked → IsIn w asked → innermost w.who later ≡ innermost w.who past
      → (ask : Ask) → w.asked.ask ≡ ask → is_out_of_turn later vs w.who ask ≡ true → is_out_of_turn past ws w.who ask ≡ true
  out_of_turn w asked no_more there inner (Ask.Go h) is out =
      by (or_cases (h == 0) (started h later || list_any (λ v. asks_to_start h v.asked.ask) vs) out)
    where
      own : asks_to_start h w.asked.ask ≡ true
      own = ap (asks_to_start h) is ∙ eq-eqb h h refl

      in_turn : IsToStart h past ws → ((h == 0) || (started h past || list_any (λ v. asks_to_start h v.asked.ask) ws)) ≡ true
      in_turn (inl so) =
          or_right (h == 0) (started h past || list_any (λ v. asks_to_start h v.asked.ask) ws)
          (or_left (started h past) (list_any (λ v. asks_to_start h v.asked.ask) ws) so)
      in_turn (inr (v, v_there, v_asks)) =
          or_right (h == 0) (started h past || list_any (λ v. asks_to_start h v.asked.ask) ws)
          (or_right (started h past) (list_any (λ v. asks_to_start h v.asked.ask) ws) (any_from (λ v. asks_to_start h v.asked.ask) ws v v_there v_asks))

      rest : (started h later ≡ true) ⊎ (list_any (λ (v : Waiter). asks_to_start h v.asked.ask) vs ≡ true) → IsToStart h past ws
      rest (inl so) = no_more.events w h there own so
      rest (inr some) =
          let (v, v_there, v_asks) = any_in (λ v. asks_to_start h v.asked.ask) vs some in no_more.requests w v h there own v_there v_asks

      by : ((h == 0) ≡ true) ⊎ ((started h later || list_any (λ (v : Waiter). asks_to_start h v.asked.ask) vs) ≡ true)
          → ((h == 0) || (started h past || list_any (λ (v : Waiter). asks_to_start h v.asked.ask) ws)) ≡ true
      by (inl main) = or_left (h == 0) (started h past || list_any (λ v. asks_to_start h v.asked.ask) ws) main
      by (inr so) = in_turn (rest (or_cases (started h later) (list_any (λ v. asks_to_start h v.asked.ask) vs) so))
  out_of_turn w asked no_more there inner Ask.Exit is out = ap is_some (sym inner) ∙ out
  out_of_turn w asked no_more there inner (Ask.EndDo o) is out = ap (λ x. not (gives x o)) (sym inner) ∙ out
  out_of_turn w asked no_more there inner _ is out = out

  one_not_bad : (decls : DeclsState) (w : Waiter) (asked : List Waiter) → StartNoMore past later ws vs asked → IsIn w asked
      → innermost w.who later ≡ innermost w.who past → is_bad_among decls past ws w ≡ false → is_bad_among decls later vs w ≡ false
  one_not_bad decls w asked no_more there inner fine = by (not (is_sound decls w)) fine
    where
      by : (unsound : Bool) → (unsound || is_out_of_turn past ws w.who w.asked.ask) ≡ false → (unsound || is_out_of_turn later vs w.who w.asked.ask) ≡ false
      by true is = absurd (true≢false is)
      by false is =
          false_by (is_out_of_turn past ws w.who w.asked.ask) (is_out_of_turn later vs w.who w.asked.ask)
          (out_of_turn w asked no_more there inner w.asked.ask refl) is

-- none is bad elsewhere
pub none_bad_elsewhere : (decls other : DeclsState) (past later : List Event) (ws vs asked : List Waiter) → other ≡ decls
    → StartNoMore past later ws vs asked → ((w : Waiter) → IsIn w asked → innermost w.who later ≡ innermost w.who past)
    → NoneIsBad decls past ws asked → NoneIsBad other later vs asked
none_bad_elsewhere decls other past later ws vs [] same no_more inner fine = tt
none_bad_elsewhere decls other past later ws vs (w ∷ asked) same no_more inner fine = (
  subst (λ d. is_bad_among d later vs w ≡ false) (sym same)
      (one_not_bad past later ws vs decls w (w ∷ asked) no_more (first_in w asked) (inner w (first_in w asked)) fine.0),
  none_bad_elsewhere decls other past later (ws ++ w ∷ []) (vs ++ w ∷ []) asked same (start_no_more past later ws vs asked w no_more)
      (λ v there. inner v (in_more v w asked there)) fine.1,
)

-- none of them asks to start whom another asks to start
pub starts_apart : (decls : DeclsState) (past : List Event) (ws asked : List Waiter) (v w : Waiter) (g : ℕ) → NoneIsBad decls past ws asked
    → IsIn v asked → asks_to_start g v.asked.ask ≡ true → IsIn w ws → asks_to_start g w.asked.ask ≡ true → ⊥
starts_apart decls past ws [] v w g fine (i, at) v_asks there w_asks = none-some v at
starts_apart decls past ws (x ∷ asked) v w g fine (suc i, at) v_asks there w_asks =
    starts_apart decls past (ws ++ x ∷ []) asked v w g fine.1 (i, at) v_asks (in_left w ws (x ∷ []) there) w_asks
starts_apart decls past ws (x ∷ asked) v w g fine (zero, at) v_asks there w_asks =
    by x.asked.ask refl (ap (λ (y : Waiter). asks_to_start g y.asked.ask) (same_Some x v at) ∙ v_asks)
  where
    by : (ask : Ask) → x.asked.ask ≡ ask → asks_to_start g ask ≡ true → ⊥
    by (Ask.Go h) is asks =
        let same : h ≡ g = eqb-true h g asks in
        let bad : is_out_of_turn past ws x.who (Ask.Go h) ≡ true =
        or_right (h == 0) (started h past || list_any (λ v. asks_to_start h v.asked.ask) ws)
        (or_right (started h past) (list_any (λ v. asks_to_start h v.asked.ask) ws)
        (any_from (λ v. asks_to_start h v.asked.ask) ws w there (ap (λ n. asks_to_start n w.asked.ask) same ∙ w_asks))) in
        true≢false (sym (or_right (not (is_sound decls x)) (is_out_of_turn past ws x.who x.asked.ask) (ap (is_out_of_turn past ws x.who) is ∙ bad)) ∙ fine.0)
    by _ is asks = true≢false (sym asks)

-- Who asks to start a goroutine, and the event in which it is started.

no_row : {X : Type 0} (b : Bool) (x : X) → (if b then None else None) ≡ Some x → ⊥
no_row true x is = none-some x is
no_row false x is = none-some x is

-- the row of a start is that of who asks for it
pub go_asks : (ask : Ask) (k g : ℕ) (told : Option Answer) → IsRow ask k (Go g) told → asks_to_start g ask ≡ true
go_asks (Ask.Go h) k g told row = by (k == 0) (g == h) refl row
  where
    by : (first same : Bool) → (g == h) ≡ same → (if first then told_if same (Some Answer.Unit) else None) ≡ Some told → (h == g) ≡ true
    by true true is row = eq-eqb h g (sym (eqb-true g h is))
    by true false is row = absurd (none-some told row)
    by false same is row = absurd (none-some told row)
go_asks (Ask.Select offers has_default) k g told row = by (slice_get offers k) row
  where
    by : (o : Option Offer) → elim o [ None ↦ None | Some o ↦ told_offer k o (Go g) ] ≡ Some told → asks_to_start g (Ask.Select offers has_default) ≡ true
    by None is = absurd (none-some told is)
    by (Some (Offer.Send None v)) is = absurd (none-some told is)
    by (Some (Offer.Send (Some c) v)) is = absurd (none-some told is)
    by (Some (Offer.Recv None)) is = absurd (none-some told is)
    by (Some (Offer.Recv (Some c))) is = absurd (none-some told is)
go_asks (Ask.TryLock l) k g told row = absurd (none-some told row)
go_asks (Ask.TryRLock l) k g told row = absurd (none-some told row)
go_asks (Ask.Send None v) k g told row = absurd (no_row (k == 0) told row)
go_asks (Ask.Send (Some c) v) k g told row = absurd (no_row (k == 0) told row)
go_asks (Ask.Recv None) k g told row = absurd (no_row (k == 0) told row)
go_asks (Ask.Recv (Some c)) k g told row = absurd (no_row (k == 0) told row)
go_asks (Ask.Close None) k g told row = absurd (no_row (k == 0) told row)
go_asks (Ask.Close (Some c)) k g told row = absurd (no_row (k == 0) told row)
go_asks _ k g told row = absurd (no_row (k == 0) told row)

-- each that asks is among those that were ready
pub ask_who : {R : Type 0} (asks : R → Answer → Request → R → Type 0) (p : ℕ → Bool) (ready : List (ℕ × Answer)) (rs : List (Option R)) (ws : List Waiter)
    (last : List (Option R)) → AllPass p ready → AskAll asks ready rs ws last → (w : Waiter) → IsIn w ws → p w.who ≡ true
ask_who asks p [] rs ws last all (none, is) w there = let (i, at) = subst (IsIn w) none there in absurd (none-some w at)
ask_who asks p (r ∷ ready) rs ws last all (routine, next, asked, rest, at_place, does, is, more) w there = by (subst (IsIn w) is there)
    (ask_who asks p ready _ rest last all.1 more w)
  where
    by : IsIn w (asker r.0 asked ∷ rest) → (IsIn w rest → p w.who ≡ true) → p w.who ≡ true
    by (zero, at) later = ap (λ (x : Waiter). p x.who) (sym (same_Some (asker r.0 asked) w at)) ∙ all.0
    by (suc i, at) later = later (i, at)
