-- A list of requests, and what stands for each. (Our own)
use Rattle.std.specs.Prelude.{ℕ, ◌<◌, List, [], ◌∷◌, Bool, true, false, get_or}
use Rattle.race_requests.specs.declared.{list.{Brief.Brief, BriefAsk.BriefAsk}, request.{Ask.Ask, Offer.Offer}}
use Rattle.race_requests.specs.declared.request.Request.{Request}

-- a `RequestList` as its callers see it: the requests, and whether there is room for one more
pub record RequestListState : Type 0 where
  pub items : List Request
  pub has_room : Bool

-- it is a select
abbrev pub is_select : Ask → Bool
is_select (Ask.Select offers has_default) = true
is_select _ = false

-- the offers of what is asked
abbrev pub offers_in : Ask → List (List Offer)
offers_in (Ask.Select offers has_default) = offers ∷ []
offers_in _ = []

-- what is asked in brief, where these are the offers of all selects
abbrev pub ask_of : List (List Offer) → BriefAsk → ℕ → Ask
ask_of selects (BriefAsk.Go g) value = Ask.Go g
ask_of selects BriefAsk.Exit value = Ask.Exit
ask_of selects (BriefAsk.Read x) value = Ask.Read x
ask_of selects (BriefAsk.Write x) value = Ask.Write x value
ask_of selects (BriefAsk.Send c) value = Ask.Send c value
ask_of selects (BriefAsk.Recv c) value = Ask.Recv c
ask_of selects (BriefAsk.Close c) value = Ask.Close c
ask_of selects (BriefAsk.Select has_default) value = Ask.Select (get_or selects value []) has_default
ask_of selects (BriefAsk.Lock l) value = Ask.Lock l
ask_of selects (BriefAsk.Unlock l) value = Ask.Unlock l
ask_of selects (BriefAsk.RLock l) value = Ask.RLock l
ask_of selects (BriefAsk.RUnlock l) value = Ask.RUnlock l
ask_of selects (BriefAsk.TryLock l) value = Ask.TryLock l
ask_of selects (BriefAsk.TryRLock l) value = Ask.TryRLock l
ask_of selects (BriefAsk.Do o) value = Ask.Do o
ask_of selects (BriefAsk.EndDo o) value = Ask.EndDo o

-- the request in brief
abbrev pub request_of : List (List Offer) → Brief → Request
request_of selects b = record { ask = ask_of selects b.ask b.value; place = b.place }

-- the offers of a select are among so many
abbrev pub IsWithin : ℕ → BriefAsk → ℕ → Type 0
IsWithin count (BriefAsk.Select has_default) value = value < count
IsWithin count _ value = Unit {0}

-- those of each select are
abbrev pub AreWithin : ℕ → List Brief → Type 0
AreWithin count [] = Unit {0}
AreWithin count (b ∷ briefs) = IsWithin count b.ask b.value × AreWithin count briefs
