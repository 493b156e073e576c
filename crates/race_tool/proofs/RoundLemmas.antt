-- Lines that threads read ahead of the reader, and bytes that are fed in two parts.
use Rattle.std.proofs.Common.{◌≡◌, ℕ, ◌-◌, List, ◌++◌, length, length-drop, take, drop, IsTrue, All, None, Result, Ok, Err}
use Rattle.std.proofs.Common.{IfOk, IfErr, Vec, refl, ap, ◌∙◌, subst, append_assoc, arith}
use Rattle.std.proofs.lemmas.List.{take-append-drop, take_all}
use Rattle.race_text.specs.declared.{ahead.LineAhead.LineAhead, fed.Fed.Fed, stream.EventStream.EventStream}
use Rattle.race_text.specs.{Ahead.{AreAhead, AreKnownAhead}, Fed.IsReady}
use Rattle.race_text.specs.Stream.{Known, StandsFor, decls_of, has_events, known_now}
use Rattle.race_tool.specs.Input.{IsBetweenFine}

-- what was read ahead is known of the stream
pub known_ahead : {A : Type 0} (k : Known) (r : Fed (EventStream A) A) (bytes : List ℕ) (ahead : List (Vec LineAhead A)) → IsBetweenFine (StandsFor k) r
    → IsTrue (has_events r.lines.reader) → All (λ lines. AreAhead r.lines.reader bytes lines.items) ahead
    → (known : Known) × IsReady (StandsFor known) r × AreKnownAhead known bytes ahead
known_ahead k r bytes ahead fine begun all =
    let s = r.lines.reader in
    let between = fine.between in (
      known_now k s,
      λ _. record {
        some = record {
          lines = between.some.lines;
          stands = record {
            stream = between.some.stands.stream;
            declared = record { event = begun; same = refl; kept = λ n place at. at };
          };
        };
        unended = between.unended;
      },
      λ i d less j e within. record { declared = (decls_of s).declarations; known = refl; ahead = all i d less j e within },
    )

-- a reader that told no fault is between two lines again
pub fine_still : {A : Type 0} (k : Known) (old new : Fed (EventStream A) A) → (IsReady (StandsFor k) old → IsReady (StandsFor k) new) → new.fault ≡ None
    → IsBetweenFine (StandsFor k) old → IsBetweenFine (StandsFor k) new
fine_still k old new on fine was = record { fine = fine; between = on (λ _. was.between) fine }

-- what holds of a front and then of the rest holds of all
pub of_both : (Holds : List ℕ → Type 0) (before first rest bytes : List ℕ) → first ++ rest ≡ bytes → Holds ((before ++ first) ++ rest) → Holds (before ++ bytes)
of_both Holds before first rest bytes is has = subst Holds (append_assoc before first rest ∙ ap (λ (b : List ℕ). before ++ b) is) has

pub cut_whole : (n : ℕ) (first rest bytes : List ℕ) → first ≡ take n bytes → rest ≡ drop n bytes → first ++ rest ≡ bytes
cut_whole n first rest bytes front back = (λ i. front i ++ back i) ∙ take-append-drop n bytes

-- bytes are those in front and those from there on, as the code cuts them
pub rest_whole : (n : ℕ) (bytes : List ℕ) → take n bytes ++ take (length bytes - n) (drop n bytes) ≡ bytes
rest_whole n bytes =
    let len = length-drop n bytes in
    ap (λ (rest : List ℕ). take n bytes ++ rest) (take_all (length bytes - n) (drop n bytes) (omega (arith, len))) ∙ take-append-drop n bytes

pub if_ok_map : {X E : Type 0} (F H : X → Type 0) (r : Result X E) → ((x : X) → F x → H x) → IfOk r F → IfOk r H
if_ok_map F H (Ok x) on has = on x has
if_ok_map F H (Err e) on has = tt

pub if_err_map : {X E : Type 0} (F H : E → Type 0) (r : Result X E) → ((e : E) → F e → H e) → IfErr r F → IfErr r H
if_err_map F H (Ok x) on has = tt
if_err_map F H (Err e) on has = on e has
