-- What is taken of bytes of which some lines were read ahead.
use Rattle.std.proofs.Common.{◌≡◌, ◌==◌, ℕ, ◌+◌, List, [], ◌∷◌, ◌++◌, length, take, drop, Some, None, Result, Ok, Err, IsTrue, IfSome}
use Rattle.std.proofs.Common.{IfErr, IsErrAnd, OnOk, cond, arith, refl, ap, sym, subst, ◌∙◌}
use Rattle.std.proofs.{Common.{append_assoc, append-nil}, lemmas.{List.{append_cancel_right, take-append-drop}, Option.none-some}}
use Rattle.std.proofs.lemmas.List.{Splits.length-slice_split, Sums.{sum_by-append, sum_by-cons}}
use Rattle.std.specs.{Borrow.Bor, List.sum_by}
use Rattle.race_text.specs.declared.{ahead.LineAhead.LineAhead, cause.TextFault.TextFault, fed.Fed.Fed, stream.EventStream.EventStream}
use Rattle.race_text.specs.{Ahead.{IsAhead, IsKnownAhead}, Common.{SaysEvent, line_in, op_of}, Fault.trace_causes, Reading.occurrence, Words.parts_of}
use Rattle.race_text.specs.Fed.{IsFed, IsUnended, TakesBytes, TakesFront, TakesNext, TakesSome, TellsOfWhole}
use Rattle.race_text.specs.Grammar.{ForEachLines, Takes, Tells}
use Rattle.race_text.specs.Stream.{HasDeclared, Known, StandsFor, decls_of, has_events}
use Rattle.race_text.specs.{Lines.Causes}
use Rattle.race_text.proofs.{FedLemmas.{last_is, seam_line, seam_part, still_taken, takes_all}, LinesTaken.{line_goes, next_told}, ParseLemmas.cut_joined}

-- no newline is in a line that one ends
line_unended : (left line others : List ℕ) → parts_of left ≡ line ∷ parts_of others → IsUnended line
line_unended left line others e = by (parts_of line) refl one
  where
    one : length (parts_of line) ≡ 1
    one =
        let is_newline = λ (b : ℕ). b == 10 in
        let count = λ (b : ℕ). cond (b == 10) 1 0 in
        let all = ap length e in
        let cut = ap (sum_by count) (cut_joined left line others e) ∙ sum_by-append count line (10 ∷ others) in
        omega (
          arith,
          all,
          cut,
          sum_by-cons count 10 others,
          length-slice_split is_newline left,
          length-slice_split is_newline line,
          length-slice_split is_newline others,
        )

    by : (ps : List (List ℕ)) → parts_of line ≡ ps → length ps ≡ 1 → IsUnended line
    by [] is n = absurd (omega (arith, n))
    by (part ∷ []) is n = is ∙ ap (λ (p : List ℕ). p ∷ []) (last_is line part is)
    by (part ∷ next ∷ parts) is n = absurd (omega (arith, n))

module _ (causes : Causes) where
  -- a line is taken
  pub line_front : (Stood Stands : List (List ℕ) → Type 0) (bytes line others : List ℕ) → parts_of bytes ≡ line ∷ parts_of others
      → Takes causes Stood line Stands → TakesFront causes Stood bytes Stands others
  line_front Stood Stands bytes line others ends takes = record {
    front = line ++ 10 ∷ [];
    bytes_are = append_assoc line (10 ∷ []) others ∙ sym (cut_joined bytes line others ends);
    taken =
        line_goes causes Stood Stands (line ++ 10 ∷ []) line []
        (λ more. seam_line (line ++ 10 ∷ []) line [] more
        (seam_part line (10 ∷ []) [] ([] ∷ []) (line_unended bytes line others ends) refl ∙ ap (λ (p : List ℕ). p ∷ [] ∷ []) (append-nil line))) takes;
  }

  module _ (Stood Mid Stands : List (List ℕ) → Type 0) (bytes left : List ℕ) (first : TakesFront causes Stood bytes Mid left) where
    pub front_taken : TakesBytes causes Stood bytes Mid left
    front_taken whole more t =
        first.taken whole (left ++ more)
        (subst (TakesSome causes Stood whole) (ap (λ (b : List ℕ). b ++ more) (sym first.bytes_are) ∙ append_assoc first.front left more) t)

    pub then_taken : (rest : List ℕ) → TakesFront causes Mid left Stands rest → TakesFront causes Stood bytes Stands rest
    then_taken rest second = record {
      front = first.front ++ second.front;
      bytes_are = append_assoc first.front second.front rest ∙ ap (λ (b : List ℕ). first.front ++ b) second.bytes_are ∙ first.bytes_are;
      taken = λ whole more t.
          second.taken whole more
          (first.taken whole (second.front ++ more) (subst (TakesSome causes Stood whole) (append_assoc first.front second.front more) t));
    }

    pub then_told : (told : TextFault) → TellsOfWhole causes Mid left told → TellsOfWhole causes Stood bytes told
    then_told told tells = record {
      told = λ whole more t. tells.told whole more (front_taken whole more t);
      owed = λ whole t. tells.owed whole (takes_all causes Stood Mid bytes left whole front_taken t);
    }

    -- the next line is taken
    pub then_next : (others : Bor (List ℕ)) → TakesNext causes Mid left (Some others) Stands → TakesFront causes Stood bytes Stands others.now
    then_next others next = then_taken others.now (line_front Mid Stands left (line_in left) others.now next.0 next.1)

    -- no line is taken
    pub then_none : ForEachLines Mid Stands → TakesFront causes Stood bytes Stands left
    then_none stays = record {
      front = first.front;
      bytes_are = first.bytes_are;
      taken = λ whole more t. still_taken causes whole more Mid Stands stays (first.taken whole more t);
    }

  -- no line is taken yet
  pub none_front : (Stood : List (List ℕ) → Type 0) (bytes : List ℕ) → TakesFront causes Stood bytes Stood bytes
  none_front Stood bytes = record { front = []; bytes_are = refl; taken = λ whole more t. t }

  -- so many bytes are taken
  pub front_is : (Stood Stands : List (List ℕ) → Type 0) (at : ℕ) (bytes : List ℕ)
      → TakesFront causes Stood bytes Stands (drop at bytes) → TakesBytes causes Stood (take at bytes) Stands []
  front_is Stood Stands at bytes taken =
      subst (λ (front : List ℕ). TakesBytes causes Stood front Stands [])
      (append_cancel_right taken.front (take at bytes) (drop at bytes) (taken.bytes_are ∙ sym (take-append-drop at bytes))) taken.taken

module _ {A : Type 0} (k : Known) (s : EventStream A) (bytes : List ℕ) (line : LineAhead) (known : IsKnownAhead k bytes line) where
  has_declared : (lines : List (List ℕ)) → StandsFor k s lines → HasDeclared k.places s known.declared
  has_declared lines S = subst (λ o. IfSome o (HasDeclared k.places s)) known.known S.declared

  -- what was known as the line was read holds as it is taken
  pub begun_now : (lines : List (List ℕ)) → StandsFor k s lines → IsTrue (has_events s)
  begun_now lines S = (has_declared lines S).event

  pub ahead_now : (lines : List (List ℕ)) → StandsFor k s lines → IsAhead (decls_of s).declarations (decls_of s).places bytes line
  ahead_now lines S =
      let has = has_declared lines S in
      record {
        place = known.ahead.place;
        number = has.kept line.place known.ahead.place known.ahead.number;
        says = subst (λ ds. SaysEvent ds (drop line.start bytes) (occurrence line.who (op_of line.deed) (known.ahead.place, None)) (drop line.end bytes)) (sym has.same) known.ahead.says;
        within = known.ahead.within;
      }

-- a line that was read ahead is taken, or what is owed is told with its number
module _ {A : Type 0} (old new : EventStream A) (bytes : List ℕ) (start end : ℕ) (ends : parts_of (drop start bytes) ≡ line_in (drop start bytes) ∷ parts_of (drop end bytes)) where
  pub this_taken : (k : Known) → Takes trace_causes (StandsFor k old) (line_in (drop start bytes)) (StandsFor k new)
      → TakesFront trace_causes (StandsFor k old) (drop start bytes) (StandsFor k new) (drop end bytes)
  this_taken k takes =
      line_front trace_causes (StandsFor k old) (StandsFor k new) (drop start bytes) (line_in (drop start bytes)) (drop end bytes) ends takes

  pub this_told : (k : Known) (told : TextFault) → ForEachLines (StandsFor k old) (λ lines. told.line ≡ length lines + 1)
      → Tells trace_causes (StandsFor k old) (line_in (drop start bytes)) told.cause → TellsOfWhole trace_causes (StandsFor k old) (drop start bytes) told
  this_told k told number least =
      next_told trace_causes (StandsFor k old) (StandsFor k old) (StandsFor k old) (drop start bytes) (drop start bytes) (λ whole more t. t) told
      (record { rest = drop end bytes; ends = ends; is = λ lines S. record { number = number lines S; least = least lines S } })

pub on_ok : {X E : Type 0} {F H : Type 0} (r : Result X E) → (F → H) → OnOk r F → OnOk r H
on_ok (Ok x) then has = then has
on_ok (Err e) then has = tt

pub if_err : {X E : Type 0} (F : E → Type 0) (r : Result X E) (e : E) → IsErrAnd r (λ f. f ≡ e) → F e → IfErr r F
if_err F (Ok x) e is has = tt
if_err F (Err f) e is has = subst F (sym is) has

-- what is taken of a piece goes on after what was fed before
pub fed_on : {G A : Type 0} (causes : Causes) (Stands : G → List (List ℕ) → Type 0) (old new : Fed G A) (piece fed : List ℕ) → old.fault ≡ None → new.fault ≡ None
    → TakesBytes causes (Stands old.lines.reader) (old.lines.part.items ++ piece) (Stands new.lines.reader) new.lines.part.items
    → IsFed causes Stands old fed → IsFed causes Stands new (fed ++ piece)
fed_on causes Stands old new piece fed none fine takes S = record {
  taken = λ _ more.
      takes ((fed ++ piece) ++ more) more
      (subst (λ (p : List ℕ × List ℕ). TakesSome causes (Stands old.lines.reader) p.0 p.1)
      (λ i. (sym (append_assoc fed piece more) i, sym (append_assoc old.lines.part.items piece more) i)) (S.taken none (piece ++ more)));
  told = λ f is more. absurd (none-some f (sym fine ∙ is));
}
