-- A shard takes a block event by event.
use Rattle.std.proofs.Common.{◌≡◌, ℕ, zero, suc, ◌+◌, ◌/◌, ◌^◌, ◌<◌, ◌≤◌, refl, List, [], ◌∷◌, ◌++◌, Some, None, All}
use Rattle.std.proofs.Common.{take, length, slice_get, get_or, sym, ap, ◌∙◌, subst, arith, append_assoc, append-nil}
use Rattle.std.proofs.{Common.length-append, Math.Seq.{take-append-add, take-append_seam}}
use Rattle.std.proofs.lemmas.{Option.{slice_get_within, slice_get_read, get_or_from_slice_get}, List.length-take-le}
use Rattle.std.proofs.lemmas.List.Sums.{count_by-le-length}
use Rattle.race_records.specs.declared.{event.Event.Event, kind.Kind.Kind}
use Rattle.race_records.specs.Declarations.{count_of, counts_of, capacity_of}
use Rattle.race_model.specs.{Events.{count, is_access}, Legal.IsLegal, Clocks.participations}
use Rattle.race_model.proofs.{LegalSteps.legal_take, CountSteps.{as_number, count_push}}
use Rattle.race_legal.{specs.ReplayState.IsInRange, proofs.Fronts.take_next}
use Rattle.race_clock.specs.{declared.stamp.Stamp.Stamp, StamperState.StamperState, Stamps.stamp_of}
use Rattle.race_clock.specs.{ClocksState.clock_of, StandsFor.{IsNext, CountsReaching, CountsAtAccess}}
use Rattle.race_clock.proofs.{NextFrom.allowed_last, StampLaws.{Says, says}}
use Rattle.race_access.proofs.{StampSteps.accessed, NoteSteps.no_access}
use Rattle.race_verdict.proofs.RangeLemmas.{accessed_in_range, accessed_below}
use Rattle.race_shards.specs.declared.shard.Shard.TheInside.{Inside}
use Rattle.race_shards.specs.{Variables.{VariablesState, IsShapedAs, GoesOn}, Shards.{ShardState, ShardStandsFor}}
use Rattle.race_shards.{specs.Shards.{IsNextBlock, Takes}, proofs.VariableSteps.kept_other}
use Rattle.race_clock.specs.StandsFor as clock

-- of one event, and of one among others
pub all_one : (P : Event → Type 0) (e : Event) → P e → All P (e ∷ [])
all_one P e is zero d less = is
all_one P e is (suc k) d less = absurd (omega (arith, less))

pub all_at : (P : Event → Type 0) (block : List Event) (i : ℕ) (e : Event) → All P block → slice_get block i ≡ Some e → P e
all_at P block i e all here = subst P (get_or_from_slice_get block i e e here) (all i e (slice_get_within block i e here))

-- an item that was read stands there
pub item_at : {X : Type 0} (xs : List X) (i : ℕ) (x : X) → i < length xs → x ≡ get_or xs i x → slice_get xs i ≡ Some x
item_at xs i x less is = slice_get_read xs (length xs) i x refl less is

-- a shard as its callers see it, from its inside
abbrev pub seen : {A : Type 0} → Inside A → ShardState
seen inside = record { stamper = inside.stamper; variables = inside.variables; accesses = inside.accesses }

pub next_seen : {s t : ShardState} {block : List Event} → s ≡ t → IsNextBlock t block → IsNextBlock s block
next_seen {s} {t} {block} is next = subst (λ (s : ShardState). IsNextBlock s block) (sym is) next

-- a front of a block that breaks no rule breaks none
pub legal_front : (caps : ℕ → ℕ) (past block : List Event) (i : ℕ) → IsLegal caps (past ++ block) → IsLegal caps (past ++ take i block)
legal_front caps past block i legal =
    subst (IsLegal caps) (take-append-add past block i) (legal_take caps (past ++ block) (length past + i) legal)

-- no event is taken
pub takes_none : (s : ShardState) (block : List Event) → Takes s (take 0 block) s
takes_none s block declarations n k past S legal = subst (ShardStandsFor declarations n k s) (sym (append-nil past)) S

-- and one more
pub takes_more : (old mid new : ShardState) (block : List Event) (i : ℕ) (e : Event) → slice_get block i ≡ Some e
    → Takes old (take i block) mid → Takes mid (e ∷ []) new → Takes old (take (i + 1) block) new
takes_more old mid new block i e here before then declarations n k past S legal =
    let next : take (i + 1) block ≡ take i block ++ e ∷ [] = take_next block i e here in
    let all : past ++ take (i + 1) block ≡ (past ++ take i block) ++ e ∷ [] = ap (λ front. past ++ front) next ∙ sym (append_assoc past (take i block) (e ∷ [])) in
    let longer : IsLegal (capacity_of declarations) ((past ++ take i block) ++ e ∷ []) = subst (IsLegal (capacity_of declarations)) all legal in
    let shorter : IsLegal (capacity_of declarations) (past ++ take i block) = front past (take i block) longer in
    subst (ShardStandsFor declarations n k new) (sym all) (then declarations n k (past ++ take i block) (before declarations n k past S shorter) longer)
  where
    front : (past xs : List Event) → IsLegal (capacity_of declarations) ((past ++ xs) ++ e ∷ []) → IsLegal (capacity_of declarations) (past ++ xs)
    front past xs longer = subst (IsLegal (capacity_of declarations)) (take-append_seam (past ++ xs) (e ∷ []))
        (legal_take (capacity_of declarations) ((past ++ xs) ++ e ∷ []) (length (past ++ xs)) longer)

-- each event of a block may come when it is its turn
pub next_event : (old mid : ShardState) (block : List Event) (i : ℕ) (e : Event) → slice_get block i ≡ Some e → IsNextBlock old block
    → Takes old (take i block) mid → IsNextBlock mid (e ∷ [])
next_event old mid block i e here next before =
    let less : i < length block = slice_get_within block i e here in
    let caps = capacity_of next.declarations in
    let whole = next.follows.legal in
    record {
      declarations = next.declarations;
      n = next.n;
      k = next.k;
      past = next.past ++ take i block;
      stands = before next.declarations next.n next.k next.past next.stands (legal_front caps next.past block i whole);
      follows = record {
        range = all_one (IsInRange (counts_of next.declarations)) e (all_at (IsInRange (counts_of next.declarations)) block i e next.follows.range here);
        legal =
            subst (IsLegal caps) (ap (λ front. next.past ++ front) (take_next block i e here) ∙ sym (append_assoc next.past (take i block) (e ∷ [])))
            (legal_front caps next.past block (i + 1) whole);
        room = let room = next.follows.room in let short = length-take-le i block (omega arith) in omega (arith, room, less, short, length-append next.past (take i block));
      };
    }

-- what a shard needs of the next event
module _ (s : ShardState) (e : Event) (next : IsNextBlock s (e ∷ [])) where
  range : IsInRange (counts_of next.declarations) e
  range = next.follows.range 0 e (omega arith)

  pub is_next : IsNext s.stamper e
  is_next = record {
    declarations = next.declarations;
    past = next.past;
    stands = next.stands.stamper;
    in_range = range;
    allowed = allowed_last (capacity_of next.declarations) next.past e next.follows.legal;
    room = let room = next.follows.room in omega (arith, room);
  }

  said : (stamp : Stamp) → stamp_of next.past e ≡ Some stamp
      → Says (length next.past) e.who (participations e.who next.past + 1) e.op stamp
  said stamp is = says (length next.past) e.who (participations e.who next.past + 1) e.op stamp is

  -- the goroutine of its stamp has a clock
  pub has_clock : (k : StamperState) (stamp : Stamp) → stamp_of next.past e ≡ Some stamp → clock.GoesOn s.stamper k e → stamp.who < length k.clocks.slots
  has_clock k stamp is goes =
      let S = goes next.declarations next.past next.stands.stamper (allowed_last (capacity_of next.declarations) next.past e next.follows.legal) in
      let all : length k.clocks.slots ≡ count_of Kind.Goroutine next.declarations = S.all_goroutines in
      let who : stamp.who ≡ e.who = (said stamp is).actor in
      let less = range.0 in
      omega (arith, all, who, less)

  -- one access more can be counted
  pub counts_one : s.accesses + 1 < 2 ^ 64
  counts_one =
      let same = next.stands.accesses in
      let most : count is_access next.past ≤ length next.past = count_by-le-length (λ (e : Event). is_access e.op) next.past in
      let room = next.follows.room in
      omega (arith, same, most, room)

  -- and its variable a place
  pub has_place : (stamp : Stamp) → stamp_of next.past e ≡ Some stamp → stamp.var / s.variables.count < length s.variables.kept
  has_place stamp is =
      let declared : stamp.var < count_of Kind.Var next.declarations =
      accessed_below e.op (count_of Kind.Var next.declarations) stamp.var (accessed_in_range (counts_of next.declarations) e.op range.1)
      (accessed (length next.past) e.who (participations e.who next.past + 1) e.op stamp is).0 in
      next.stands.places stamp.var declared

-- a shard's stamper went on: past an event that is no access
pub takes_other : (s : ShardState) (k : StamperState) (e : Event) → clock.GoesOn s.stamper k e
    → clock.ForEachPast s.stamper (λ declarations past. None ≡ stamp_of past e)
    → Takes s (e ∷ []) (record { stamper = k; variables = s.variables; accesses = s.accesses })
takes_other s k e goes none declarations n m past S legal = record {
  stamper = goes declarations past S.stamper (allowed_last (capacity_of declarations) past e legal);
  number = S.number;
  count = S.count;
  places = S.places;
  kept = kept_other (capacity_of declarations) past e s.variables (sym (none declarations past S.stamper)) S.kept;
  accesses =
      let same = S.accesses in
      let other = no_access (length past) e.who (participations e.who past + 1) e.op (sym (none declarations past S.stamper)) in
      let more = count_push is_access past e ∙ ap (λ b. count is_access past + as_number b) other in
      omega (arith, same, more);
}

-- and past an access
pub takes_access : (s : ShardState) (k : StamperState) (v : VariablesState) (e : Event) (stamp : Stamp) (its : List ℕ) → clock.GoesOn s.stamper k e
    → clock.ForEachPast s.stamper (λ declarations past. Some stamp ≡ stamp_of past e) → CountsAtAccess s.stamper k e → its ≡ clock_of k.clocks stamp.who
    → IsShapedAs s.variables v → GoesOn s.variables v stamp e.place its
    → Takes s (e ∷ []) (record { stamper = k; variables = v; accesses = s.accesses + 1 })
takes_access s k v e stamp its goes some counts is shape touches declarations n m past S legal = record {
  stamper = goes declarations past S.stamper (allowed_last (capacity_of declarations) past e legal);
  number = shape.number ∙ S.number;
  count = shape.count ∙ S.count;
  places = λ x less. subst (λ n. x / n < length v.kept) (sym shape.count) (subst (λ l. x / s.variables.count < l) (sym shape.places) (S.places x less));
  kept = touches (capacity_of declarations) past e S.kept (record {
    stamped = stamped;
    placed = refl;
    reaching = subst (CountsReaching (capacity_of declarations) past e e.who) (sym (is ∙ ap (clock_of k.clocks) word.actor)) (counts word.access declarations past S.stamper);
  });
  accesses =
      let same = S.accesses in
      let more = count_push is_access past e ∙ ap (λ b. count is_access past + as_number b) word.access in
      omega (arith, same, more);
}
  where
    stamped : stamp_of past e ≡ Some stamp
    stamped = sym (some declarations past S.stamper)

    word : Says (length past) e.who (participations e.who past + 1) e.op stamp
    word = says (length past) e.who (participations e.who past + 1) e.op stamp stamped
