-- Programs: declarations, and the body of each goroutine.
use Rattle.std.specs.Prelude.{◌≡◌, ℕ, ◌^◌, ◌≤◌, ◌&&◌, Bool, true, nat_lt, nat_le, List, [], ◌∷◌, ◌++◌, length, map}
use Rattle.std.specs.{Prelude.{fold, if◌then◌else◌, Option, None}, List.{list_all, flat_map}, Option.option_map_or}
use Rattle.race_records.specs.declared.{declarations.TheConstants.MAX_PLACES, kind.Kind.Kind, version.Version.Version}
use Rattle.race_records.specs.Declarations.{Declaration, DeclsState, IsWellFormed, count_of, counts_of, is_known, is_rw}
use Rattle.race_records.specs.Equality.{Declared}
use Rattle.race_requests.specs.{declared.request.{Ask.Ask, Offer.Offer, Request.Request}, Possible.ask_is_in_range}
use Rattle.race_requests.specs.Sound.{has_ask, rwmutex_asked}
use Rattle.race_text.specs.Text.{place_text}
use Rattle.race_script.specs.{declared.program.TheConstants.MAX_STEPS, Bodies.is_body}

-- a `Program` as its callers see it: the declarations with the version and the table of places, and the body of each goroutine
pub record ProgramState : Type 0 where
  pub decls : DeclsState
  pub bodies : List (List Request)

-- a request with its place as it is spelled
pub record Instruction : Type 0 where
  pub ask : Ask
  pub place : List ℕ

-- a program as far as it is told, with its places as they are spelled: the bodies that have ended, and the one that has not
pub record Draft : Type 0 where
  pub version : Version
  pub declarations : List Declaration
  pub ended : List (List Instruction)
  pub unended : Option (List Instruction)

-- its version, and what it declares
abbrev pub declared_by : Draft → Declared
declared_by d = record { version = d.version; declarations = d.declarations }

-- what a body's requests ask
abbrev pub asks_of : List Request → List Ask
asks_of body = map (λ r. r.ask) body

-- and its instructions
abbrev pub asked_by : List Instruction → List Ask
asked_by body = map (λ i. i.ask) body

-- the value of the offer is a u64
abbrev pub offer_is_limited : Offer → Bool
offer_is_limited (Offer.Send c v) = nat_lt v (2 ^ 64)
offer_is_limited (Offer.Recv c) = true

-- each value of the ask is a u64
abbrev pub ask_is_limited : Ask → Bool
ask_is_limited (Ask.Write x v) = nat_lt v (2 ^ 64)
ask_is_limited (Ask.Send c v) = nat_lt v (2 ^ 64)
ask_is_limited (Ask.Select offers has_default) = list_all offer_is_limited offers
ask_is_limited _ = true

-- all that the ask names is declared, its lock is an rwmutex where it has to be one, and each value is a u64
abbrev pub ask_fits : List Declaration → Ask → Bool
ask_fits ds ask = ask_is_in_range (counts_of ds) ask && option_map_or (is_rw ds) (rwmutex_asked ask) true && ask_is_limited ask

-- the version has what is requested, it fits the declarations, and its place is in the table
abbrev pub request_fits : DeclsState → Request → Bool
request_fits decls r = has_ask decls.version r.ask && ask_fits decls.declarations r.ask && nat_lt r.place (length decls.places)

-- the requests are a body: each fits, they nest and end as a body's do, and there are not too many
abbrev pub is_body_of : DeclsState → List Request → Bool
is_body_of decls body = list_all (request_fits decls) body && is_body (asks_of body) && nat_le (length body) MAX_STEPS

-- the request as an instruction
abbrev pub instruction : List (List ℕ) → Request → Instruction
instruction places r = record { ask = r.ask; place = place_text places r.place }

-- so with all of them
abbrev pub spelled : List (List ℕ) → List Request → List Instruction
spelled places body = map (instruction places) body

-- the program with its places as they are spelled
abbrev pub draft_of : ProgramState → Draft
draft_of p = record {
  version = p.decls.version;
  declarations = p.decls.declarations;
  ended = map (spelled p.decls.places) p.bodies;
  unended = None;
}

-- the bodies, the one that has not ended last
abbrev pub bodies_of : Draft → List (List Instruction)
bodies_of d = option_map_or (λ body. d.ended ++ body ∷ []) d.unended d.ended

-- the table with the place at its end, unless it is known
abbrev pub with_place : List (List ℕ) → List ℕ → List (List ℕ)
with_place places word = if is_known places word then places else places ++ word ∷ []

-- the different places, in the order in which they first come
abbrev pub places_of : Draft → List (List ℕ)
places_of d = fold (λ places i. with_place places i.place) [] (flat_map (λ body. body) (bodies_of d))

-- what holds of every program: it has a body for each goroutine, main's first, and no more places than a program can have
pub record IsProgram (p : ProgramState) : Type 0 where
  pub well_formed : IsWellFormed p.decls
  pub count : length p.bodies ≡ count_of Kind.Goroutine p.decls.declarations
  pub bodies : list_all (is_body_of p.decls) p.bodies ≡ true
  pub few_places : length (places_of (draft_of p)) ≤ MAX_PLACES
