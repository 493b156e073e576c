-- A judge takes a block.
use Rattle.std.proofs.Common.{◌≡◌, ℕ, ◌+◌, ◌<◌, ◌≤◌, false, List, [], ◌∷◌, ◌++◌, All, Option, Some, None, take, drop}
use Rattle.std.proofs.Common.{take_all, length, slice_get, refl, sym, ap, ◌∙◌, ◌-◌, subst, inl, inr, arith}
use Rattle.std.proofs.Common.{append_assoc, append-nil, length-append, length-drop, true, ◌==◌, eqb-true, Result, Err}
use Rattle.std.proofs.{Common.slice_index_or, lemmas.{Option.slice_get_within, Bool.{cases_lt, Decides.nat_tests}}}
use Rattle.std.proofs.lemmas.List.{take-append-drop, take-append-le, length-take-le, get_or_append_left}
use Rattle.std.proofs.{lemmas.List.{get_or-append_right, Elements.{All-take, All-drop}}, Math.Seq.take-add}
use Rattle.std.specs.{Prelude.IsTrue, Option.is_some}
use Rattle.race_shards.specs.{Limits.is_shards, declared.{fault.JudgeFault.JudgeFault, judge.Judge.TheInside.Inside}}
use Rattle.race_shards.specs.{Telling.{told_below, HavePlaces}, Shards.{ShardState, ShardStandsFor, ShardsStandFor}}
use Rattle.race_shards.specs.{Shards.{AllTake, AreNextBlock}, Judging.{JudgeState, StandsFor, StandsForSome, IsSound}}
use Rattle.race_shards.specs.Judging.{CanTake, GoesOn, Tells, AreFed, IsJudged, Accepts, Judges, CanJudge}
use Rattle.race_shards.proofs.TellSteps.{have_places, told_races}
use Rattle.race_records.specs.{declared.{event.Event.Event, kind.Kind.Kind}, Declarations.{Declaration, count_of}}
use Rattle.race_records.specs.{Declarations.{counts_of, capacity_of}, Events.{TraceState, IsTrace}}
use Rattle.race_model.specs.{Legal.{broken, IsLegal, IsIllegalAt}, Verdict.{Verdict, IsVerdict}}
use Rattle.race_model.proofs.{Indexes.{append_at_old, at_below}, LegalSteps.illegal_push}
use Rattle.race_legal.specs.{declared.legality.Illegal.Illegal, Rules.number_of}
use Rattle.race_legal.{specs.ReplayState.{ReplayState, IsInRange, counts_in}, proofs.Fronts.take_next}
use Rattle.race_legal.proofs.RangeLemmas.{range_from_fits}
use Rattle.race_verdict.specs.{declared.races.Race.Race, Races.{AreRaces, races_of}}
use Rattle.race_legal.specs.StandsFor as legal

-- a judge as its callers see it, from its inside
abbrev pub seen : {A : Type 0} → Inside A → JudgeState
seen inside = record {
  failed = inside.failed;
  len = inside.len;
  illegal = inside.illegal;
  vars = inside.vars;
  count = inside.count;
  replay = inside.replay;
  shards = inside.shards.items;
}

pub can_seen : {j k : JudgeState} (block : List Event) → j ≡ k → CanTake k block → CanTake j block
can_seen block is can = subst (λ (j : JudgeState). CanTake j block) (sym is) can

-- a list that is illegal stays so, whatever follows
pub illegal_more : (caps : ℕ → ℕ) (past more : List Event) (i n : ℕ) → IsIllegalAt caps past i n → IsIllegalAt caps (past ++ more) i n
illegal_more caps past more i n (e, at, is, legal) =
    let less : i < length past = slice_get_within past i e at in
    let front : take i (past ++ more) ≡ take i past = take-append-le i past more (omega arith) in (
      e,
      append_at_old past more i e at,
      subst (λ es. broken caps es e ≡ Some n) (sym front) is,
      subst (IsLegal caps) (sym front) legal,
    )

-- no event is accepted
pub accepts_none : (k : ReplayState) (block : List Event) → Accepts k (take 0 block) None k
accepts_none k block declarations past S = subst (legal.StandsFor declarations k) (sym (append-nil past)) S

-- what was told of the block is this
pub accepts_is : {o p : Option Illegal} (old new : ReplayState) (block : List Event) → o ≡ p → Accepts old block o new → Accepts old block p new
accepts_is old new block is accepts = subst (λ illegal. Accepts old block illegal new) is accepts

-- an event breaks a rule
pub accepts_not : (old new : ReplayState) (e : Event) (illegal : Illegal) → legal.ForEachPast old (λ past. illegal.at ≡ length past)
    → legal.IsLeastBroken old e (Some (number_of illegal.rule)) → Accepts old (e ∷ []) (Some illegal) new
accepts_not old new e illegal at least declarations past S =
    subst (λ es. IsIllegalAt (capacity_of declarations) es illegal.at (number_of illegal.rule)) (append-nil (past ++ e ∷ []))
    (subst (λ n. IsIllegalAt (capacity_of declarations) ((past ++ e ∷ []) ++ []) n (number_of illegal.rule)) (sym (at declarations past S))
    (illegal_push (capacity_of declarations) past [] e (number_of illegal.rule) S.legal (least declarations past S)))

module _ (old mid new : ReplayState) (block : List Event) (i : ℕ) (e : Event) (here : slice_get block i ≡ Some e)
    (before : Accepts old (take i block) None mid) where
  front : (past : List Event) → (past ++ take i block) ++ e ∷ [] ≡ past ++ take (i + 1) block
  front past = append_assoc past (take i block) (e ∷ []) ∙ ap (λ front. past ++ front) (sym (take_next block i e here))

  -- one event more is accepted
  pub accepts_more : Accepts mid (e ∷ []) None new → Accepts old (take (i + 1) block) None new
  accepts_more then declarations past S =
      subst (legal.StandsFor declarations new) (front past) (then declarations (past ++ take i block) (before declarations past S))

  -- or breaks a rule, and so one of the block does
  pub breaks : (illegal : Illegal) → Accepts mid (e ∷ []) (Some illegal) new → Accepts old block (Some illegal) new
  breaks illegal then declarations past S =
      let whole : (past ++ take (i + 1) block) ++ drop (i + 1) block ≡ past ++ block =
      append_assoc past (take (i + 1) block) (drop (i + 1) block) ∙ ap (λ xs. past ++ xs) (take-append-drop (i + 1) block) in
      subst (λ es. IsIllegalAt (capacity_of declarations) es illegal.at (number_of illegal.rule)) whole
      (illegal_more (capacity_of declarations) (past ++ take (i + 1) block) (drop (i + 1) block) illegal.at (number_of illegal.rule)
      (subst (λ es. IsIllegalAt (capacity_of declarations) es illegal.at (number_of illegal.rule)) (front past)
      (then declarations (past ++ take i block) (before declarations past S))))

-- shards that stand for a list take a block that keeps it legal
pub take_block : (declarations : List Declaration) (n : ℕ) (past block : List Event) (old new : List ShardState) → ShardsStandFor declarations n old past
    → AllTake old block new → IsLegal (capacity_of declarations) (past ++ block) → ShardsStandFor declarations n new (past ++ block)
take_block declarations n past block old new stand all legal k t at =
    go (at_below old k (let less = slice_get_within new k t at in let same = all.all in omega (arith, less, same)))
  where
    go : ((s : ShardState) × (slice_get old k ≡ Some s)) → ShardStandsFor declarations n k t (past ++ block)
    go (s, was) = all.each k s t was at declarations n k past (stand k s was) legal

-- where the block breaks no rule, the shards may take it
pub next_block : (old new : ReplayState) (shards : List ShardState) (block : List Event) → CanJudge old shards block → Accepts old block None new
    → AreNextBlock shards block
next_block old new shards block can accepts = record {
  declarations = can.declarations;
  n = can.n;
  past = can.past;
  stand = can.fed.stand;
  follows = record {
    range = subst (λ (counts : Kind → ℕ). All (IsInRange counts) block) can.fed.replayed.counts can.range;
    legal = (accepts can.declarations can.past can.fed.replayed).legal;
    room = let room = can.room in let len = can.fed.replayed.len in omega (arith, room, len);
  };
}

-- and where they did, replay and shards go on
pub judges_legal : (old new : ReplayState) (shards shards_now : List ShardState) (block : List Event) → Accepts old block None new
    → AllTake shards block shards_now → Judges old shards block None new shards_now
judges_legal old new shards shards_now block accepts all declarations n past fed =
    let replay = accepts declarations past fed.replayed in
    record {
      replayed = replay;
      all = all.all ∙ fed.all;
      some = fed.some;
      stand = take_block declarations n past block shards shards_now fed.stand all replay.legal;
    }

pub judges_illegal : (old new : ReplayState) (shards shards_now : List ShardState) (block : List Event) (illegal : Illegal)
    → Accepts old block (Some illegal) new → Judges old shards block (Some illegal) new shards_now
judges_illegal old new shards shards_now block illegal accepts declarations n past fed = accepts declarations past fed.replayed

-- two lists in range are so together
range_both : (P : Event → Type 0) (past block : List Event) → All P past → All P block → All P (past ++ block)
range_both P past block all more i d less = elim (cases_lt i (length past)) [
  | inl front ↦ subst P (sym (get_or_append_left past block d i front)) (all i d front)
  | inr back ↦
      subst P (sym (get_or-append_right past block (length past) i d refl back)) (more (i - length past) d (omega (arith, less, back, length-append past block)))
]

-- a judge that stands for a list can judge the next block
pub can_judge : (j : JudgeState) (block : List Event) → IsSound j → j.failed ≡ false → j.illegal ≡ None → CanTake j block → CanJudge j.replay j.shards block
can_judge j block sound well legal can =
    let some = sound well in
    let fed : AreFed some.declarations j.count j.replay j.shards some.past =
    subst (IsJudged some.declarations j.count j.replay j.shards some.past) legal some.stands.judged in
    record {
      declarations = some.declarations;
      n = j.count;
      past = some.past;
      fed = fed;
      range = (can well).0;
      room = let room = (can well).1 in let len = some.stands.len in let same = fed.replayed.len in omega (arith, room, len, same);
    }

module _ (old : JudgeState) (block : List Event) (can : CanTake old block) where
  -- a judge whose verdict is settled, or that is handed nothing, counts the events
  abbrev pub counted : JudgeState
  counted = record {
    failed = old.failed;
    len = old.len + length block;
    illegal = old.illegal;
    vars = old.vars;
    count = old.count;
    replay = old.replay;
    shards = old.shards;
  }

  range_on : (declarations : List Declaration) (past : List Event) → StandsFor declarations old past → All (IsInRange (counts_of declarations)) (past ++ block)
  range_on declarations past S =
      range_both (IsInRange (counts_of declarations)) past block S.range
      (subst (λ (counts : Kind → ℕ). All (IsInRange counts) block) S.counts (can S.sound).0)

  len_on : (declarations : List Declaration) (past : List Event) → StandsFor declarations old past → length (past ++ block) ≡ old.len + length block
  len_on declarations past S = let len = S.len in omega (arith, len, length-append past block)

  pub counts_on : (old.illegal ≡ None → block ≡ []) → GoesOn old block counted
  counts_on only declarations past S = record {
    sound = S.sound;
    len = len_on declarations past S;
    range = range_on declarations past S;
    vars = S.vars;
    counts = S.counts;
    judged = go old.illegal refl S.judged;
  }
    where
      go : (illegal : Option Illegal) → old.illegal ≡ illegal → IsJudged declarations old.count old.replay old.shards past illegal
          → IsJudged declarations old.count old.replay old.shards (past ++ block) illegal
      go None is fed = subst (λ xs. AreFed declarations old.count old.replay old.shards (past ++ xs)) (sym (only is))
          (subst (AreFed declarations old.count old.replay old.shards) (sym (append-nil past)) fed)
      go (Some illegal) is broken = illegal_more (capacity_of declarations) past block illegal.at (number_of illegal.rule) broken

  -- a judge that judged the block
  abbrev pub judged : Option Illegal → ReplayState → List ShardState → JudgeState
  judged illegal replay shards = record {
    failed = old.failed;
    len = old.len + length block;
    illegal = illegal;
    vars = old.vars;
    count = old.count;
    replay = replay;
    shards = shards;
  }

  pub judges_on : (illegal : Option Illegal) (replay : ReplayState) (shards : List ShardState) → old.illegal ≡ None
      → Judges old.replay old.shards block illegal replay shards → counts_in replay ≡ counts_in old.replay → GoesOn old block (judged illegal replay shards)
  judges_on illegal replay shards going judges same declarations past S = record {
    sound = S.sound;
    len = len_on declarations past S;
    range = range_on declarations past S;
    vars = S.vars;
    counts = same ∙ S.counts;
    judged = judges declarations old.count past (subst (IsJudged declarations old.count old.replay old.shards past) going S.judged);
  }

-- so it stays sound
pub sound_on : (old new : JudgeState) (block : List Event) → IsSound old → old.failed ≡ false → GoesOn old block new → IsSound new
sound_on old new block sound well goes now =
    let some = sound well in
    record { declarations = some.declarations; past = some.past ++ block; stands = goes some.declarations some.past some.stands }

-- judges have a shard at least
pub some_shards : (count : ℕ) → IsTrue (is_shards count) → 0 < count
some_shards count is = grind (arith, nat_tests)

-- before the first event
pub stands_first : (declarations : List Declaration) (vars count : ℕ) (replay : ReplayState) (shards : List ShardState) → 0 < count
    → vars ≡ count_of Kind.Var declarations → legal.StandsFor declarations replay [] → length shards ≡ count → ShardsStandFor declarations count shards []
    → StandsFor declarations (record { failed = false; len = 0; illegal = None; vars = vars; count = count; replay = replay; shards = shards }) []
stands_first declarations vars count replay shards some declared S all stand = record {
  sound = refl;
  len = refl;
  range = λ i d less. absurd (omega (arith, less));
  vars = declared;
  counts = S.counts;
  judged = record { replayed = S; all = all; some = some; stand = stand };
}

module _ (j : JudgeState) (going : j.illegal ≡ None) where
  fed_of : (declarations : List Declaration) (past : List Event) → StandsFor declarations j past → AreFed declarations j.count j.replay j.shards past
  fed_of declarations past S = subst (IsJudged declarations j.count j.replay j.shards past) going S.judged

  pub some_of : (declarations : List Declaration) (past : List Event) → StandsFor declarations j past → 0 < length j.shards
  some_of declarations past S = let fed = fed_of declarations past S in let some = fed.some in let all = fed.all in omega (arith, some, all)

  pub stand_of : (declarations : List Declaration) (past : List Event) → StandsFor declarations j past → ShardsStandFor declarations (length j.shards) j.shards past
  stand_of declarations past S =
      let fed = fed_of declarations past S in
      subst (λ n. ShardsStandFor declarations n j.shards past) (sym fed.all) fed.stand

  -- there is a shard, and a place for each variable
  pub has_shard : IsSound j → j.failed ≡ false → 0 < length j.shards
  has_shard sound well = let S = sound well in some_of S.declarations S.past S.stands

  pub places_of : IsSound j → j.failed ≡ false → HavePlaces j.shards j.vars
  places_of sound well =
      let S = sound well in
      subst (HavePlaces j.shards) (sym S.stands.vars)
      (have_places S.declarations j.shards S.past (some_of S.declarations S.past S.stands) (stand_of S.declarations S.past S.stands))

  races_are : (declarations : List Declaration) (past : List Event) → StandsFor declarations j past → (races : List Race) → races ≡ races_of (told_below j.shards j.vars)
      → AreRaces (capacity_of declarations) past races
  races_are declarations past S races is =
      subst (AreRaces (capacity_of declarations) past) (sym (is ∙ ap (λ n. races_of (told_below j.shards n)) S.vars))
      (told_races declarations j.shards past (some_of declarations past S) (stand_of declarations past S) S.range)

  -- a verdict that is right wherever these are the races is the judge's
  pub tells_races : (verdict : Verdict) (races : List Race) → races ≡ races_of (told_below j.shards j.vars)
      → ((caps : ℕ → ℕ) (events : List Event) → IsLegal caps events → AreRaces caps events races → IsVerdict caps events verdict) → Tells j verdict
  tells_races verdict races is right declarations past S =
      right (capacity_of declarations) past (fed_of declarations past S).replayed.legal (races_are declarations past S races is)

  -- and as many shards as were asked for
  pub count_of_shards : IsSound j → j.failed ≡ false → length j.shards ≡ j.count
  count_of_shards sound well = let S = sound well in (fed_of S.declarations S.past S.stands).all

-- no event breaks a rule where none is told
pub none_of : (o : Option Illegal) → is_some o ≡ false → o ≡ None
none_of None is = refl
none_of (Some illegal) is = cc

-- where one is told, or the block is empty, there is nothing to judge
pub settled : (o : Option Illegal) (block : List Event) → is_some o ≡ true → o ≡ None → block ≡ []
settled None block some none = cc
settled (Some illegal) block some none = cc

pub empty_of : (block : List Event) → (length block == 0) ≡ true → block ≡ []
empty_of [] is = refl
empty_of (e ∷ block) is = let none : length (e ∷ block) ≡ 0 = eqb-true (length (e ∷ block)) 0 is in absurd (omega (arith, none))

pub same_fault : (a b : JudgeFault) → ◌≡◌ {A = Result (Unit {0}) JudgeFault} (Err a) (Err b) → a ≡ b
same_fault a b e = cc

-- A judge that took a front of some events can take those behind it.
module _ (old : JudgeState) (some : StandsForSome old) (events : List Event) (can : CanTake old events) (at : ℕ) (inside : at ≤ length events)
    (j : JudgeState) (goes : GoesOn old (take at events) j) where
  now : StandsFor some.declarations j (some.past ++ take at events)
  now = goes some.declarations some.past some.stands

  -- it stands for some list
  pub some_taken : StandsForSome j
  some_taken = record { declarations = some.declarations; past = some.past ++ take at events; stands = now }

  -- and hasn't failed
  pub well_taken : j.failed ≡ false
  well_taken = now.sound

  -- it has counted them
  pub len_taken : j.len ≡ old.len + at
  len_taken =
      let before : length some.past ≡ old.len = some.stands.len in
      let after : length (some.past ++ take at events) ≡ j.len = now.len in
      omega (arith, before, after, length-append some.past (take at events), length-take-le at events inside)

  -- so many more may come
  pub can_take_next : (n : ℕ) → n ≤ length events - at → CanTake j (take n (drop at events))
  can_take_next n short well = (
    subst (λ (counts : Kind → ℕ). All (IsInRange counts) (take n (drop at events))) (some.stands.counts ∙ sym now.counts)
        (All-take (IsInRange (counts_in old.replay)) n (drop at events) (All-drop (IsInRange (counts_in old.replay)) at events (can some.stands.sound).0)),
    (let room = (can some.stands.sound).1 in
        let rest : length (drop at events) ≡ length events - at = length-drop at events in
        let block : length (take n (drop at events)) ≡ n = length-take-le n (drop at events) (omega (arith, rest, short)) in
        omega (arith, len_taken, room, block, short, inside)),
  )

  -- and a longer front is taken then
  pub took_next : (n : ℕ) (new : JudgeState) → GoesOn j (take n (drop at events)) new → GoesOn old (take (at + n) events) new
  took_next n new more declarations past S =
      let front : (past ++ take at events) ++ take n (drop at events) ≡ past ++ take (at + n) events =
      append_assoc past (take at events) (take n (drop at events)) ∙ ap (λ front. past ++ front) (sym (take-add at n events)) in
      subst (StandsFor declarations new) front (more declarations (past ++ take at events) (goes declarations past S))

-- none are taken yet
pub took_none : (j : JudgeState) (events : List Event) → GoesOn j (take 0 events) j
took_none j events declarations past S = subst (StandsFor declarations j) (sym (append-nil past)) S

-- all are
pub took_all : (old new : JudgeState) (events : List Event) (at : ℕ) → length events ≤ at → GoesOn old (take at events) new → GoesOn old events new
took_all old new events at end goes = subst (λ front. GoesOn old front new) (take_all at events end) goes

-- the events of a trace are in range of its declarations
pub in_range_all : (trace : TraceState) → IsTrace trace → All (IsInRange (counts_of trace.decls.declarations)) trace.events
in_range_all trace holds k d less = range_from_fits trace.decls (slice_index_or trace.events k d) (holds.fit k d less)

-- and a judge before the first one can take all
pub can_take_all : (trace : TraceState) → IsTrace trace → (j : JudgeState) → StandsFor trace.decls.declarations j [] → CanTake j trace.events
can_take_all trace holds j S well = (
  subst (λ (counts : Kind → ℕ). All (IsInRange counts) trace.events) (sym S.counts) (in_range_all trace holds),
  (let len : 0 ≡ j.len = S.len in let limited = holds.limited in omega (arith, len, limited)),
)
