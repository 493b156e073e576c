-- A list of requests, read and made longer in brief.
use Rattle.std.proofs.Common.{◌≡◌, ℕ, zero, suc, ◌≤◌, List, [], ◌∷◌, ◌++◌, length, map, Option, Some, slice_get, refl}
use Rattle.std.proofs.{Common.{ap, subst, ◌∙◌, arith}, lemmas.List.get_or_append_left}
use Rattle.std.{proofs.lemmas.Option.{none-some, slice_get-map}, specs.Option.option_map}
use Rattle.race_requests.specs.declared.{list.{Brief.Brief, BriefAsk.BriefAsk}, request.{Ask.Ask, Offer.Offer}}
use Rattle.race_requests.specs.{declared.request.Request.Request, List.{ask_of, request_of, IsWithin, AreWithin}}

-- offers of more selects change nothing
same_ask : (selects more : List (List Offer)) (ask : BriefAsk) (value : ℕ) → IsWithin (length selects) ask value
    → ask_of (selects ++ more) ask value ≡ ask_of selects ask value
same_ask selects more (BriefAsk.Select has_default) value within =
    ap (λ offers. Ask.Select offers has_default) (get_or_append_left selects more [] value within)
same_ask selects more _ value within = refl

within_one : (n m : ℕ) (ask : BriefAsk) (value : ℕ) → n ≤ m → IsWithin n ask value → IsWithin m ask value
within_one n m (BriefAsk.Select has_default) value le within = omega (arith, le, within)
within_one n m _ value le within = within

-- the offers of each select are there behind one request more
pub within_pushed : (n m : ℕ) (briefs : List Brief) (b : Brief) → n ≤ m → AreWithin n briefs → IsWithin m b.ask b.value → AreWithin m (briefs ++ b ∷ [])
within_pushed n m [] b le within last = (last, tt)
within_pushed n m (c ∷ briefs) b le within last = (within_one n m c.ask c.value le within.0, within_pushed n m briefs b le within.1 last)

-- those of the select in its place are
pub within_at : (n : ℕ) (briefs : List Brief) (k : ℕ) (b : Brief) → AreWithin n briefs → slice_get briefs k ≡ Some b → IsWithin n b.ask b.value
within_at n [] k b within is = absurd (none-some b is)
within_at n (c ∷ briefs) zero b within is = let e : c ≡ b = cc in subst (λ (d : Brief). IsWithin n d.ask d.value) e within.0
within_at n (c ∷ briefs) (suc k) b within is = within_at n briefs k b within.1 is

-- one request more
pub requests_pushed : (selects more : List (List Offer)) (briefs : List Brief) (b : Brief) (r : Request) → AreWithin (length selects) briefs
    → request_of (selects ++ more) b ≡ r → map (request_of (selects ++ more)) (briefs ++ b ∷ []) ≡ map (request_of selects) briefs ++ r ∷ []
requests_pushed selects more [] b r within is = λ i. is i ∷ []
requests_pushed selects more (c ∷ briefs) b r within is =
    λ i. record { ask = same_ask selects more c.ask c.value within.0 i; place = c.place } ∷ requests_pushed selects more briefs b r within.1 is i

-- the request in its place is that which stands there in brief
pub request_at : (selects : List (List Offer)) (briefs : List Brief) (k : ℕ) (b : Brief) → slice_get briefs k ≡ Some b
    → slice_get (map (request_of selects) briefs) k ≡ Some (request_of selects b)
request_at selects briefs k b is = by _ is (slice_get-map (request_of selects) briefs k)
  where
    by : (o : Option Brief) → o ≡ Some b → slice_get (map (request_of selects) briefs) k ≡ option_map (request_of selects) o
        → slice_get (map (request_of selects) briefs) k ≡ Some (request_of selects b)
    by o e whole = whole ∙ ap (option_map (request_of selects)) e
