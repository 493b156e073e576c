-- Spans of places: a waiting request that receives from a channel stands in the channel's span.
use Rattle.std.specs.Prelude.{ℕ, ◌≡◌, ◌<◌, ◌≤◌, ◌%◌, false, List, slice_index}
use Rattle.race_requests.specs.{declared.request.Waiter.Waiter, Waiting.receives_at}

-- the first place of each span, and one more than the last
pub record Spans : Type 0 where
  pub firsts : List ℕ
  pub ends : List ℕ

abbrev pub first_of : Spans → ℕ → ℕ
first_of spans c = slice_index spans.firsts (c % 256)

abbrev pub end_of : Spans → ℕ → ℕ
end_of spans c = slice_index spans.ends (c % 256)

-- the place stands in the channel's span
pub record IsInSpan (spans : Spans) (c i : ℕ) : Type 0 where
  pub from : first_of spans c ≤ i
  pub to : i < end_of spans c

-- each span begins at the place or before, and ends by that number
abbrev pub ReachTo : Spans → ℕ → ℕ → Type 0
ReachTo spans place end = (c : ℕ) → (first_of spans c ≤ place) × (end_of spans c ≤ end)

-- whoever receives from a channel stands neither before its span nor behind
pub record AreInSpans (waiting : List Waiter) (spans : Spans) : Type 0 where
  pub before : (c i : ℕ) → i < first_of spans c → receives_at waiting c i ≡ false
  pub behind : (c i : ℕ) → end_of spans c ≤ i → receives_at waiting c i ≡ false
