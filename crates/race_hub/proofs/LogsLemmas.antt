-- The logs of a hub, and what comes of them at its end.
use Rattle.std.proofs.Common.{◌≡◌, ◌==◌, ℕ, zero, suc, ◌<◌, ◌++◌, Bool, true, false, List, [], ◌∷◌, length, map}
use Rattle.std.proofs.Common.{slice_get, slice_set, Option, Some, None, refl, sym, ap, ◌∙◌, subst, arith, true≢false, eq-eqb}
use Rattle.std.proofs.Common.{unwrap_or, get_or}
use Rattle.std.proofs.lemmas.{List.length-set, Option.{none-some, slice_get_within, slice_get-map}}
use Rattle.std.proofs.lemmas.{List.map-set, Option.slice_get-get_or}
use Rattle.std.specs.Option.{option_map}
use Rattle.race_records.specs.declared.event.Event.{Event}
use Rattle.race_model.proofs.Indexes.{at_below, slice_get-push}
use Rattle.race_requests.{specs.declared.request.Step.Step, proofs.ChoiceLemmas.some_is}
use Rattle.race_hub.specs.{Part.IsPart, Logs.{log_of, logs_in}, Finish.IsLeastOther, Recording.AreParts}
use Rattle.race_hub.specs.Tracks.{TrackState, IsTracked, HavePassed, IsFirstOther}
use Rattle.race_hub.proofs.{TableLemmas.{same_number, set_other, get_set, length_map}, TrackLemmas.pushed_at}

-- no event was passed along any
abbrev pub AreFresh : List TrackState → Type 0
AreFresh tracks = (g : ℕ) (t : TrackState) → slice_get tracks g ≡ Some t → t.passed ≡ Some 0

pub fresh_set : (tracks : List TrackState) (k : ℕ) (t : TrackState) → t.passed ≡ Some 0 → AreFresh tracks → AreFresh (slice_set tracks k t)
fresh_set tracks k t fresh all g u at = by (k == g) refl
  where
    by : (b : Bool) → (k == g) ≡ b → u.passed ≡ Some 0
    by true test = own (same_number k g test)
      where
        own : k ≡ g → u.passed ≡ Some 0
        own same =
            let less = subst (λ n. g < n) (length-set tracks k t) (slice_get_within (slice_set tracks k t) g u at) in
            let here = ap (slice_get (slice_set tracks k t)) (sym same) ∙ get_set tracks k t (subst (λ n. n < length tracks) (sym same) less) in
            ap (λ (t : TrackState). t.passed) (some_is (sym at ∙ here)) ∙ fresh
    by false test = all g u (sym (set_other tracks k g t (λ same. true≢false (sym (eq-eqb k g same) ∙ test))) ∙ at)

pub fresh_push : (tracks : List TrackState) (t : TrackState) → t.passed ≡ Some 0 → AreFresh tracks → AreFresh (tracks ++ t ∷ [])
fresh_push tracks t fresh all g u at = by (g == length tracks) refl
  where
    by : (b : Bool) → (g == length tracks) ≡ b → u.passed ≡ Some 0
    by true test =
        let last = ap (slice_get (tracks ++ t ∷ [])) (same_number g (length tracks) test) ∙ slice_get-push tracks t in
        ap (λ (t : TrackState). t.passed) (some_is (sym at ∙ last)) ∙ fresh
    by false test = all g u (pushed_at tracks t g u at (λ same. true≢false (sym (eq-eqb g (length tracks) same) ∙ test)))

pub map_push : {X Y : Type 0} (f : X → Y) (xs : List X) (x : X) → map f (xs ++ x ∷ []) ≡ map f xs ++ f x ∷ []
map_push f [] x = refl
map_push f (y ∷ xs) x = ap (λ ys. f y ∷ ys) (map_push f xs x)

-- the track of a log
pub track_at : {Y : Type 0} (f : TrackState → Y) (tracks : List TrackState) (g : ℕ) (t : TrackState) → slice_get tracks g ≡ Some t
    → slice_get (map f tracks) g ≡ Some (f t)
track_at f tracks g t at = slice_get-map f tracks g ∙ ap (option_map f) at

-- another track changes nothing here
pub map_other : {Y : Type 0} (f : TrackState → Y) (tracks : List TrackState) (k g : ℕ) (t : TrackState) → (g ≡ k → ⊥)
    → slice_get (map f (slice_set tracks k t)) g ≡ slice_get (map f tracks) g
map_other f tracks k g t other =
    slice_get-map f (slice_set tracks k t) g ∙ ap (option_map f) (set_other tracks k g t (λ same. other (sym same))) ∙ sym (slice_get-map f tracks g)

-- what was read at a place stands there
pub read_at : (tracks : List TrackState) (g : ℕ) (t : TrackState) → g < length tracks → t ≡ get_or tracks g t → slice_get tracks g ≡ Some t
read_at tracks g t less is = slice_get-get_or tracks g t less ∙ ap Some (sym is)

pub within_logs : (tracks : List TrackState) (logs : List (List Step)) (g : ℕ) → logs_in tracks ≡ logs → g < length logs → g < length tracks
within_logs tracks logs g is less =
    let count = length_map (λ (t : TrackState). t.log) tracks in
    let same = ap length is in
    omega (arith, count, same, less)

pub log_read : (tracks : List TrackState) (logs : List (List Step)) (g : ℕ) (t : TrackState) → logs_in tracks ≡ logs → g < length logs
    → t ≡ get_or tracks g t → slice_get tracks g ≡ Some t
log_read tracks logs g t is less read = read_at tracks g t (within_logs tracks logs g is less) read

pub set_log : (tracks : List TrackState) (k : ℕ) (t : TrackState) (logs : List (List Step)) (log : List Step) → logs_in tracks ≡ logs → t.log ≡ log
    → logs_in (slice_set tracks k t) ≡ slice_set logs k log
set_log tracks k t logs log is same = map-set (λ (t : TrackState). t.log) tracks k t ∙ (λ i. slice_set (is i) k (same i))

pub log_there : (tracks : List TrackState) (g : ℕ) (t : TrackState) (logs : List (List Step)) → logs_in tracks ≡ logs → slice_get tracks g ≡ Some t
    → slice_get logs g ≡ Some t.log
log_there tracks g t logs is at = ap (λ ls. slice_get ls g) (sym is) ∙ track_at (λ (t : TrackState). t.log) tracks g t at

abbrev pub rooms_of : List TrackState → List Bool
rooms_of tracks = map (λ t. t.has_room) tracks

pub keeps_rooms : (tracks : List TrackState) (k : ℕ) (t : TrackState) (rooms : List Bool) → rooms_of tracks ≡ rooms → (g : ℕ) → (g ≡ k → ⊥)
    → slice_get (rooms_of (slice_set tracks k t)) g ≡ slice_get rooms g
keeps_rooms tracks k t rooms is g other = map_other (λ (t : TrackState). t.has_room) tracks k g t other ∙ ap (λ rs. slice_get rs g) is

-- The logs behind all events.

logs_same : (old new : List TrackState) → length new ≡ length old
    → ((g : ℕ) (t : TrackState) → slice_get old g ≡ Some t → (u : TrackState) × (slice_get new g ≡ Some u) × (u.log ≡ t.log)) → logs_in new ≡ logs_in old
logs_same [] [] len each = refl
logs_same [] (u ∷ new) len each = absurd (omega (arith, len))
logs_same (t ∷ old) [] len each = absurd (omega (arith, len))
logs_same (t ∷ old) (u ∷ new) len each =
    let (v, at, log) = each zero t refl in
    ap (λ l. l ∷ logs_in new) (ap (λ (t : TrackState). t.log) (some_is at) ∙ log)
    ∙ ap (λ ls. t.log ∷ ls) (logs_same old new (omega (arith, len)) (λ g s at. each (suc g) s at))

pub passed_logs : (events : List Event) (old new : List TrackState) → HavePassed events old new → logs_in new ≡ logs_in old
passed_logs events old new passed = logs_same old new passed.count each
  where
    each : (g : ℕ) (t : TrackState) → slice_get old g ≡ Some t → (u : TrackState) × (slice_get new g ≡ Some u) × (u.log ≡ t.log)
    each g t at = let (u, there, log, on) = passed.each g t at in (u, there, log)

pub all_tracked : (events : List Event) (old new : List TrackState) → AreFresh old → HavePassed events old new → (g : ℕ) (t : TrackState)
    → slice_get new g ≡ Some t → IsTracked g events t
all_tracked events old new fresh passed g t at =
    let (s, before) = at_below old g (subst (λ n. g < n) passed.count (slice_get_within new g t at)) in
    let (u, there, log, on) = passed.each g s before in
    subst (IsTracked g events) (some_is (sym there ∙ at)) (on [] (first s (fresh g s before)))
  where
    first : (s : TrackState) → s.passed ≡ Some 0 → IsTracked g [] s
    first s is = rw is (refl, record { enough = omega arith; each = λ k s e step at. absurd (none-some e at) })

pub operands_are : (events : List Event) (tracks : List TrackState) → IsFirstOther tracks events None → AreParts (logs_in tracks) events
operands_are events tracks all g log at = by (slice_get tracks g) refl (sym (slice_get-map (λ (t : TrackState). t.log) tracks g) ∙ at)
  where
    by : (o : Option TrackState) → slice_get tracks g ≡ o → option_map (λ (t : TrackState). t.log) o ≡ Some log → IsPart g log events
    by None there is = absurd (none-some log is)
    by (Some t) there is = subst (λ log. IsPart g log events) (some_is is) (all g t there)

pub other_is : (events : List Event) (tracks : List TrackState) (g : ℕ) → IsFirstOther tracks events (Some g) → IsLeastOther g (logs_in tracks) events
other_is events tracks g other =
    let (t, at, refuted) = other.0 in
    let within = slice_get_within tracks g t at in
    let count = length_map (λ (t : TrackState). t.log) tracks in
    record {
      within = omega (arith, within, count);
      other = λ part. refuted (subst (λ log. IsPart g log events) (log_at g t at) part);
      least = λ k less.
          let (s, there) = at_below tracks k (omega (arith, less, within)) in
          subst (λ log. IsPart k log events) (sym (log_at k s there)) (other.1 k s less there);
    }
  where
    log_at : (k : ℕ) (s : TrackState) → slice_get tracks k ≡ Some s → log_of k (logs_in tracks) ≡ s.log
    log_at k s at = ap (λ (o : Option (List Step)). unwrap_or o []) (track_at (λ (t : TrackState). t.log) tracks k s at)

-- what a slice of the tracks tells
pub other_told : (events : List Event) (tracks slice : List TrackState) (told : Option ℕ) → slice ≡ tracks
    → ((events : List Event) → ((g : ℕ) (t : TrackState) → slice_get slice g ≡ Some t → IsTracked g events t) → IsFirstOther slice events told)
    → ((g : ℕ) (t : TrackState) → slice_get tracks g ≡ Some t → IsTracked g events t) → IsFirstOther tracks events told
other_told events tracks slice told same tells tracked =
    subst (λ ts. IsFirstOther ts events told) same (tells events (λ g t at. tracked g t (sym (ap (λ ts. slice_get ts g) same) ∙ at)))
