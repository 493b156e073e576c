-- A list of waiting requests, and where the run stands. (The Go Programming Language Specification, "Channel types": without a buffer sender and
-- receiver wait for one another)
use Rattle.std.specs.Prelude.{ℕ, ◌==◌, ◌&&◌, not, nat_lt, Bool, false, List, slice_get, Option, Some, None}
use Rattle.std.specs.List.{list_any}
use Rattle.race_records.specs.declared.{event.Event.Event, kind.Kind.Kind}
use Rattle.race_records.specs.Declarations.{Declaration, capacity_of, counts_of}
use Rattle.race_model.specs.State.{is_closed}
use Rattle.race_requests.specs.declared.{choice.Choice.Choice, request.{Ask.Ask, Offer.Offer, Waiter.Waiter}}
use Rattle.race_requests.specs.{Choices.choices, Possible.ask_is_in_range, Table.offers_of}

-- a `WaitingList` as its callers see it: the declarations, the events so far, and the requests in order
pub record WaitingState : Type 0 where
  pub declarations : List Declaration
  pub past : List Event
  pub waiting : List Waiter

-- the choices that it has
abbrev pub choices_of : WaitingState → List Choice
choices_of list = choices (capacity_of list.declarations) list.past list.waiting

-- the goroutine is declared, and what it names
abbrev pub is_declared : List Declaration → Waiter → Bool
is_declared ds w = nat_lt w.who (counts_of ds Kind.Goroutine) && ask_is_in_range (counts_of ds) w.asked.ask

-- the channel on which the offer sends
abbrev pub sent_on : Option Offer → Option ℕ
sent_on (Some (Offer.Send c v)) = c
sent_on _ = None

-- the offer sends on an open channel without a buffer: by no other is anybody met
abbrev pub hands_over : (ℕ → ℕ) → List Event → Option Offer → Bool
hands_over caps past offer = elim (sent_on offer) [ Some c ↦ (caps c == 0) && not (is_closed c past) | None ↦ false ]

-- the offer receives from the channel
abbrev pub receives_from : ℕ → Offer → Bool
receives_from c (Offer.Recv (Some d)) = d == c
receives_from c _ = false

-- who asks offers to
abbrev pub receives : ℕ → Ask → Bool
receives c ask = list_any (receives_from c) (offers_of ask)

-- the request at that place does
abbrev pub receives_at : List Waiter → ℕ → ℕ → Bool
receives_at waiting c i = elim (slice_get waiting i) [ None ↦ false | Some w ↦ receives c w.asked.ask ]
