-- A text that is cut into pieces: its parts, and its first fault behind the lines that were taken.
use Rattle.std.proofs.Common.{◌≡◌, ◌≢◌, ℕ, ◌+◌, ◌<◌, ◌≤◌, ◌==◌, Bool, true, false, List, [], ◌∷◌, ◌++◌, length, Option}
use Rattle.std.proofs.Common.{Some, None, Result, Ok, Err, IsErrAnd, MatchResult, refl, sym, ap, subst, ◌∙◌, arith}
use Rattle.std.proofs.{Common.{append-nil, append_assoc}, lemmas.List.length-append}
use Rattle.std.proofs.lemmas.List.Splits.{join_with_byte-slice_split, length-slice_split, slice_split-cons_yes}
use Rattle.std.proofs.lemmas.{List.Splits.slice_split-cons_no, Grind.flat_map-append, Option.{none-some, same_Some}}
use Rattle.std.specs.{List.{flat_map, join_with_byte, onto_first}, Borrow.Bor}
use Rattle.race_text.specs.{declared.{cause.{TextCause.TextCause, TextFault.TextFault}, fed.Fed.Fed}, Words.parts_of}
use Rattle.race_text.specs.{Text.ended, Lines.{Causes, or_later, fault_after, first_fault, IsLineOf, IsNoneBefore}}
use Rattle.race_text.specs.{Owed.{owed, HidesNone}, Grammar.{StandsForSome, ForEachLines, Takes}}
use Rattle.race_text.specs.Fed.{ended_after, TakesNext, TellsOfNext}
use Rattle.race_text.specs.Fed.{ended_fault, IsTaken, IsUnended, IsTold, TellsOfLine, TakesSome, IsFed, TellsOfMemory}
use Rattle.race_text.{specs.Fed.{TakesBytes, TellsOfBytes, LinesState, StandsFor, HidesNoneOf}, proofs.ParseLemmas.told}
use Rattle.race_text.proofs.ParseLemmas.{or_later_from, fault_step, fault_end, fault_from, cut_joined}

-- two lists of parts, of which the last one of the first list goes on in the first one of the second
unfoldable pub onto : List ℕ → List (List ℕ) → List (List ℕ)
onto p [] = p ∷ []
onto p (q ∷ qs) = (p ++ q) ∷ qs

unfoldable pub glue : List (List ℕ) → List (List ℕ) → List (List ℕ)
glue [] qs = qs
glue (p ∷ []) qs = onto p qs
glue (p ∷ next ∷ ps) qs = p ∷ glue (next ∷ ps) qs

some_part : (bytes : List ℕ) → 0 < length (parts_of bytes)
some_part bytes = let l = length-slice_split (λ b. b == 10) bytes in omega (arith, l)

onto_none : (qs : List (List ℕ)) → 0 < length qs → onto [] qs ≡ qs
unfolding onto
onto_none [] some = absurd (omega (arith, some))
onto_none (q ∷ qs) some = refl

glue_behind : (p : List ℕ) (ps qs : List (List ℕ)) → 0 < length ps → glue (p ∷ ps) qs ≡ p ∷ glue ps qs
unfolding glue
glue_behind p [] qs some = absurd (omega (arith, some))
glue_behind p (next ∷ ps) qs some = refl

glue_first : (x : ℕ) (ps qs : List (List ℕ)) → 0 < length ps → onto_first x (glue ps qs) ≡ glue (onto_first x ps) qs
unfolding glue onto
glue_first x [] qs some = absurd (omega (arith, some))
glue_first x (p ∷ []) [] some = refl
glue_first x (p ∷ []) (q ∷ qs) some = refl
glue_first x (p ∷ next ∷ ps) qs some = refl

pub seam : (xs ys : List ℕ) → parts_of (xs ++ ys) ≡ glue (parts_of xs) (parts_of ys)
unfolding glue
seam [] ys = sym (onto_none (parts_of ys) (some_part ys))
seam (x ∷ xs) ys = by (x == 10) refl (seam xs ys)
  where
    by : (b : Bool) → (x == 10) ≡ b → parts_of (xs ++ ys) ≡ glue (parts_of xs) (parts_of ys)
        → parts_of ((x ∷ xs) ++ ys) ≡ glue (parts_of (x ∷ xs)) (parts_of ys)
    by true is rest =
        slice_split-cons_yes (λ b. b == 10) x (xs ++ ys) is
        ∙ ap (λ (ps : List (List ℕ)). [] ∷ ps) rest
        ∙ sym (glue_behind [] (parts_of xs) (parts_of ys) (some_part xs))
        ∙ ap (λ ps. glue ps (parts_of ys)) (sym (slice_split-cons_yes (λ b. b == 10) x xs is))
    by false is rest =
        slice_split-cons_no (λ b. b == 10) x (xs ++ ys) is
        ∙ ap (onto_first x) rest
        ∙ glue_first x (parts_of xs) (parts_of ys) (some_part xs)
        ∙ ap (λ ps. glue ps (parts_of ys)) (sym (slice_split-cons_no (λ b. b == 10) x xs is))

-- a line that a newline ends stays, whatever follows
pub seam_line : (left line others more : List ℕ) → parts_of left ≡ line ∷ parts_of others → parts_of (left ++ more) ≡ line ∷ parts_of (others ++ more)
seam_line left line others more e =
    seam left more
    ∙ ap (λ ps. glue ps (parts_of more)) e
    ∙ glue_behind line (parts_of others) (parts_of more) (some_part others)
    ∙ ap (λ ps. line ∷ ps) (sym (seam others more))

-- a part without a newline goes on in the first part of what follows
pub seam_part : (part piece end : List ℕ) (ps : List (List ℕ)) → IsUnended part → parts_of piece ≡ end ∷ ps → parts_of (part ++ piece) ≡ (part ++ end) ∷ ps
unfolding glue onto
seam_part part piece end ps unended e = seam part piece ∙ ap (λ qs. glue qs (parts_of piece)) unended ∙ ap (onto part) e

-- the last part is all that is left
pub last_is : (left last : List ℕ) → parts_of left ≡ last ∷ [] → last ≡ left
last_is left last e = sym (ap (join_with_byte 10) e) ∙ join_with_byte-slice_split 10 left

pub last_unended : (left last : List ℕ) → parts_of left ≡ last ∷ [] → IsUnended last
last_unended left last e = ap (λ bytes. parts_of bytes) (last_is left last e) ∙ e

pub kept_unended : (part piece last : List ℕ) → IsUnended part → parts_of piece ≡ last ∷ [] → IsUnended (part ++ last)
kept_unended part piece last unended e = seam_part part last last [] unended (last_unended piece last e)

-- a line that is taken is behind
pub shorter : (left line others : List ℕ) → parts_of left ≡ line ∷ parts_of others → length others < length left
shorter left line others parts = let l = ap length (cut_joined left line others parts) ∙ length-append line (10 ∷ others) in omega (arith, l)

pub match_err : {X E : Type 0} (F : X → Type 0) (G : E → Type 0) (r : Result X E) (e : E) → IsErrAnd r (λ f. f ≡ e) → G e → MatchResult r F G
match_err F G (Ok x) e is has = absurd is
match_err F G (Err f) e is has = subst G (sym is) has

pub match_map : {X E : Type 0} (F H : X → Type 0) (G K : E → Type 0) (r : Result X E) → ((x : X) → F x → H x) → ((e : E) → G e → K e) → MatchResult r F G
    → MatchResult r H K
match_map F H G K (Ok x) ok err has = ok x has
match_map F H G K (Err e) ok err has = err e has

-- what is owed and isn't want of memory is the cause
pub owed_cause : (least : Option TextCause) (told : TextCause) → told ≡ owed least → told ≢ TextCause.OutOfMemory → least ≡ Some told
owed_cause None told is other = absurd (other is)
owed_cause (Some cause) told is other = ap Some (sym is)

pub some_still : (Stood Stands : List (List ℕ) → Type 0) → ForEachLines Stood Stands → StandsForSome Stood → StandsForSome Stands
some_still Stood Stands stays some = record { lines = some.lines; stands = stays some.lines some.stands }

module _ (causes : Causes) where
  -- the first fault of the lines that are ended
  ended_step : (before : List (List ℕ)) (line : List ℕ) (parts : List (List ℕ)) → 0 < length parts
      → ended_after causes before (line ∷ parts) ≡ or_later (length before + 1) (causes.line before line) (ended_after causes (before ++ line ∷ []) parts)
  unfolding ended_after
  ended_step before line [] h = absurd (omega (arith, h))
  ended_step before line (next ∷ others) h = refl

  ended_from : (parts before : List (List ℕ)) (f : TextFault) → ended_after causes before parts ≡ Some f → length before + 1 ≤ f.line
  unfolding ended_after
  ended_from [] before f h = absurd (none-some f h)
  ended_from (last ∷ []) before f h = absurd (none-some f h)
  ended_from (line ∷ next ∷ others) before f h =
      or_later_from (length before + 1) (causes.line before line) (ended_after causes (before ++ line ∷ []) (next ∷ others)) f h
      (λ g e. let later = ended_from (next ∷ others) (before ++ line ∷ []) g e in omega (arith, later, length-append before (line ∷ [])))

  -- it stays, whatever follows
  stays : (parts before more : List (List ℕ)) (f : TextFault) → ended_after causes before parts ≡ Some f → fault_after causes before (glue parts more) ≡ Some f
  unfolding ended_after glue onto
  stays [] before more f h = absurd (none-some f h)
  stays (last ∷ []) before more f h = absurd (none-some f h)
  stays (line ∷ next ∷ others) before more f h =
      fault_step causes before line (glue (next ∷ others) more) (some_glued others)
      ∙ later (causes.line before line) (stays (next ∷ others) (before ++ line ∷ []) more f) h
    where
      some_onto : (p : List ℕ) (qs : List (List ℕ)) → 0 < length (onto p qs)
      some_onto p [] = omega arith
      some_onto p (q ∷ qs) = omega arith

      some_glued : (ps : List (List ℕ)) → 0 < length (glue (next ∷ ps) more)
      some_glued [] = some_onto next more
      some_glued (p ∷ ps) = omega arith

      later : (c : Option TextCause)
          → (ended_after causes (before ++ line ∷ []) (next ∷ others) ≡ Some f → fault_after causes (before ++ line ∷ []) (glue (next ∷ others) more) ≡ Some f)
          → or_later (length before + 1) c (ended_after causes (before ++ line ∷ []) (next ∷ others)) ≡ Some f
          → or_later (length before + 1) c (fault_after causes (before ++ line ∷ []) (glue (next ∷ others) more)) ≡ Some f
      later None rest e = rest e
      later (Some c) rest e = e

  pub ended_fault_stays : (fed more : List ℕ) (f : TextFault) → ended_fault causes fed ≡ Some f → first_fault causes (fed ++ more) ≡ Some f
  unfolding ended_fault first_fault
  ended_fault_stays fed more f h = ap (fault_after causes []) (seam fed more) ∙ stays (parts_of fed) [] (parts_of more) f h

  pub taken_at_start : (bytes : List ℕ) → IsTaken causes bytes [] bytes
  unfolding first_fault ended_fault
  taken_at_start bytes = record { bytes_are = refl; fault = refl; ended_fault = refl; all = omega arith }

  module _ (bytes : List ℕ) (Stood : List (List ℕ) → Type 0) (left : List ℕ) (t : TakesSome causes Stood bytes left) where
    is_line : (f : TextFault) → f.line ≡ length t.lines + 1 → IsLineOf bytes f.line
    is_line f number = let all = t.taken.all in let some = some_part left in (omega (arith, number), omega (arith, number, all, some))

    none_before : (f : TextFault) → f.line ≡ length t.lines + 1 → IsNoneBefore f.line (first_fault causes bytes)
    none_before f number g h = let from = fault_from causes (parts_of left) t.lines g (t.taken.fault ∙ h) in omega (arith, from, number)

    none_ended_before : (f : TextFault) → f.line ≡ length t.lines + 1 → IsNoneBefore f.line (ended_fault causes bytes)
    none_ended_before f number g h = let from = ended_from (parts_of left) t.lines g (t.taken.ended_fault ∙ h) in omega (arith, from, number)

    -- memory is refused at the line that comes next
    pub memory_told : (f : TextFault) → ForEachLines Stood (TellsOfMemory f) → IsTold causes bytes f
    memory_told f each =
        let tells = each t.lines t.stands in
        record {
          ended = λ other. absurd (other tells.memory);
          whole = λ other. absurd (other tells.memory);
          none_before = none_before f tells.number;
          none_ended_before = none_ended_before f tells.number;
          line = is_line f tells.number;
        }

    module _ (line others : List ℕ) (parts : parts_of left ≡ line ∷ parts_of others) where
      whole_is : first_fault causes bytes
          ≡ or_later (length t.lines + 1) (causes.line t.lines line) (fault_after causes (t.lines ++ line ∷ []) (parts_of others))
      whole_is = sym t.taken.fault ∙ ap (fault_after causes t.lines) parts ∙ fault_step causes t.lines line (parts_of others) (some_part others)

      ended_is : ended_fault causes bytes
          ≡ or_later (length t.lines + 1) (causes.line t.lines line) (ended_after causes (t.lines ++ line ∷ []) (parts_of others))
      ended_is = sym t.taken.ended_fault ∙ ap (ended_after causes t.lines) parts ∙ ended_step t.lines line (parts_of others) (some_part others)

      -- a fault is told at its line
      pub line_told : (f : TextFault) → ForEachLines Stood (TellsOfLine causes line f) → IsTold causes bytes f
      line_told f each =
          let tells = each t.lines t.stands in
          record {
            ended = λ other.
                let least = owed_cause (causes.line t.lines line) f.cause tells.least other in
                ended_is ∙ (λ i. or_later (sym tells.number i) (least i) (ended_after causes (t.lines ++ line ∷ []) (parts_of others)));
            whole = λ other.
                let least = owed_cause (causes.line t.lines line) f.cause tells.least other in
                whole_is ∙ (λ i. or_later (sym tells.number i) (least i) (fault_after causes (t.lines ++ line ∷ []) (parts_of others)));
            none_before = none_before f tells.number;
            none_ended_before = none_ended_before f tells.number;
            line = is_line f tells.number;
          }

      -- and where there is none, the line is taken
      pub line_taken : (Stands : List (List ℕ) → Type 0) → Takes causes Stood line Stands → TakesSome causes Stands bytes others
      line_taken Stands takes =
          let lines = t.lines in
          let goes = takes lines t.stands in
          record {
            lines = lines ++ line ∷ [];
            stands = goes.stands;
            taken = record {
              bytes_are = ap (λ (b : List ℕ). b ++ others) (flat_map-append ended lines (line ∷ [])
                  ∙ ap (λ (l : List ℕ). flat_map ended lines ++ l) (append-nil (ended line)))
                  ∙ append_assoc (flat_map ended lines) (ended line) others
                  ∙ ap (λ (l : List ℕ). flat_map ended lines ++ l) (append_assoc line (10 ∷ []) others ∙ sym (cut_joined left line others parts))
                  ∙ t.taken.bytes_are;
              fault = sym (whole_is ∙ ap (λ o. or_later (length lines + 1) o (fault_after causes (lines ++ line ∷ []) (parts_of others))) goes.no_cause);
              ended_fault = sym (ended_is
                  ∙ ap (λ o. or_later (length lines + 1) o (ended_after causes (lines ++ line ∷ []) (parts_of others))) goes.no_cause);
              all = let all = t.taken.all in let cut = ap length parts in omega (arith, all, cut, length-append lines (line ∷ []));
            };
          }

      -- want of memory is told of a line at which no cause holds, and what comes behind is another line's
      pub line_owed : (f : TextFault) → ForEachLines Stood (TellsOfLine causes line f) → HidesNone f (ended_fault causes bytes)
      line_owed f each g h same = let tells = each t.lines t.stands in by tells.number (causes.line t.lines line) tells.least (sym ended_is ∙ h)
        where
          by : f.line ≡ length t.lines + 1 → (c : Option TextCause) → f.cause ≡ owed c
              → or_later (length t.lines + 1) c (ended_after causes (t.lines ++ line ∷ []) (parts_of others)) ≡ Some g → g ≡ f
          by number None least later =
              let from = ended_from (parts_of others) (t.lines ++ line ∷ []) g later in
              absurd (omega (arith, from, same, number, length-append t.lines (line ∷ [])))
          by number (Some c) least is =
              let cause : g.cause ≡ c = ap (λ (x : TextFault). x.cause) (sym (same_Some (told (length t.lines + 1) c) g is)) in
              λ i. record { line = same i; cause = (cause ∙ sym least) i }

    -- where no newline is left, no ended line is at fault
    pub none_ended : IsUnended left → ended_fault causes bytes ≡ None
    unfolding ended_after
    none_ended unended = sym t.taken.ended_fault ∙ ap (ended_after causes t.lines) unended

    -- the end
    module _ (f : TextFault) (number : f.line ≡ length t.lines + 1) where
      pub end_told : IsUnended left → causes.end t.lines left ≡ Some f.cause → first_fault causes bytes ≡ Some f
      end_told unended h =
          sym t.taken.fault ∙ ap (fault_after causes t.lines) unended ∙ fault_end causes t.lines left
          ∙ (λ i. or_later (sym number i) (h i) None)

      pub end_is_line : IsLineOf bytes f.line
      end_is_line = is_line f number

      pub end_none_before : IsNoneBefore f.line (first_fault causes bytes)
      end_none_before = none_before f number

  -- a grammar that stood for some lines stands for some
  pub some_taken : (Stood : List (List ℕ) → Type 0) (line : List ℕ) (Stands : List (List ℕ) → Type 0) → Takes causes Stood line Stands
      → StandsForSome Stood → StandsForSome Stands
  some_taken Stood line Stands takes some = record { lines = some.lines ++ line ∷ []; stands = (takes some.lines some.stands).stands }

  -- the same lines are taken, for which it still stands
  pub still_taken : (whole left : List ℕ) (Stood Stands : List (List ℕ) → Type 0) → ForEachLines Stood Stands
      → TakesSome causes Stood whole left → TakesSome causes Stands whole left
  still_taken whole left Stood Stands stays t = record { lines = t.lines; stands = stays t.lines t.stands; taken = t.taken }

  pub next_still : (Stood Still Stands : List (List ℕ) → Type 0) → ForEachLines Stood Still → (bytes : List ℕ) (rest : Option (Bor (List ℕ)))
      → TakesNext causes Still bytes rest Stands → TakesNext causes Stood bytes rest Stands
  next_still Stood Still Stands still bytes (Some rest) next = (next.0, λ lines S. next.1 lines (still lines S))
  next_still Stood Still Stands still bytes None next = (next.0, λ lines S. next.1 lines (still lines S))

  -- what was told of the next line is this
  pub next_is : {o p : Option (Bor (List ℕ))} (Stood : List (List ℕ) → Type 0) (bytes : List ℕ) (Stands : List (List ℕ) → Type 0) → o ≡ p
      → TakesNext causes Stood bytes o Stands → TakesNext causes Stood bytes p Stands
  next_is Stood bytes Stands is next = subst (λ o. TakesNext causes Stood bytes o Stands) is next

  pub tells_still : (Stood Still : List (List ℕ) → Type 0) → ForEachLines Stood Still → (bytes : List ℕ) (told : TextFault)
      → TellsOfNext causes Still bytes told → TellsOfNext causes Stood bytes told
  tells_still Stood Still still bytes told tells = record { rest = tells.rest; ends = tells.ends; is = λ lines S. tells.is lines (still lines S) }

  -- where nothing follows the bytes
  pub takes_all : (Stood Stands : List (List ℕ) → Type 0) (bytes part whole : List ℕ) → TakesBytes causes Stood bytes Stands part
      → TakesSome causes Stood whole bytes → TakesSome causes Stands whole part
  takes_all Stood Stands bytes part whole takes t =
      subst (λ (left : List ℕ). TakesSome causes Stands whole left) (append-nil part)
      (takes whole [] (subst (λ (left : List ℕ). TakesSome causes Stood whole left) (sym (append-nil bytes)) t))

  -- what is left is kept
  pub kept_taken : (whole : List ℕ) (Stands : List (List ℕ) → Type 0) (left last part more : List ℕ) → parts_of left ≡ last ∷ [] → part ≡ [] ++ last
      → TakesSome causes Stands whole (left ++ more) → TakesSome causes Stands whole (part ++ more)
  kept_taken whole Stands left last part more e is t =
      subst (λ (bytes : List ℕ). TakesSome causes Stands whole (bytes ++ more)) (sym (is ∙ last_is left last e)) t

  module _ {G A : Type 0} (Stands : G → List (List ℕ) → Type 0) where
    pub taken_of : (k : Fed G A) (fed : List ℕ) → k.fault ≡ None → IsFed causes Stands k fed
        → TakesSome causes (Stands k.lines.reader) fed k.lines.part.items
    taken_of k fed none S =
        subst (λ (bytes : List ℕ). TakesSome causes (Stands k.lines.reader) bytes k.lines.part.items) (append-nil fed)
        (subst (λ (left : List ℕ). TakesSome causes (Stands k.lines.reader) (fed ++ []) left) (append-nil k.lines.part.items) (S.taken none []))

    pub told_of : (k : Fed G A) (fed : List ℕ) (f : TextFault) → k.fault ≡ Some f → IsFed causes Stands k fed → IsTold causes fed f
    told_of k fed f is S = subst (λ (bytes : List ℕ). IsTold causes bytes f) (append-nil fed) (S.told f is [])

    -- a fault of a line that lies whole in the piece is owed
    pub owed_of : (old : Fed G A) (piece fed : List ℕ) (f : TextFault) → old.fault ≡ None → old.lines.part.items ≡ []
        → HidesNoneOf causes (Stands old.lines.reader) piece f → IsFed causes Stands old fed → HidesNone f (ended_fault causes (fed ++ piece))
    owed_of old piece fed f fine none owes S =
        owes (fed ++ piece)
        (subst (λ (p : List ℕ). TakesSome causes (Stands old.lines.reader) (fed ++ piece) (p ++ piece)) none (S.taken fine piece))

    -- a fault that was told stays
    pub told_stays : (k : Fed G A) (piece fed : List ℕ) (f : TextFault) → k.fault ≡ Some f → IsFed causes Stands k fed → IsFed causes Stands k (fed ++ piece)
    told_stays k piece fed f is S = record {
      taken = λ none. absurd (none-some f (sym none ∙ is));
      told = λ g also more. subst (λ (bytes : List ℕ). IsTold causes bytes g) (sym (append_assoc fed piece more)) (S.told g also (piece ++ more));
    }

    -- what is told of bytes behind those that were fed
    pub told_behind : (k : Fed G A) (piece fed : List ℕ) (f : TextFault) → k.fault ≡ None
        → TellsOfBytes causes (Stands k.lines.reader) (k.lines.part.items ++ piece) f → IsFed causes Stands k fed → IsTold causes (fed ++ piece) f
    told_behind k piece fed f none tells S =
        let Left : List ℕ → List ℕ → Type 0 = TakesSome causes (Stands k.lines.reader) in
        tells (fed ++ piece) []
        (subst (λ (left : List ℕ). Left (fed ++ piece) left) (sym (append-nil (k.lines.part.items ++ piece))) (S.taken none piece))

    -- where all of them are taken that a newline ends, none of these is at fault
    pub none_behind : (old : Fed G A) (New : List (List ℕ) → Type 0) (part piece fed : List ℕ) → old.fault ≡ None → IsUnended part
        → TakesBytes causes (Stands old.lines.reader) (old.lines.part.items ++ piece) New part
        → IsFed causes Stands old fed → ended_fault causes (fed ++ piece) ≡ None
    none_behind old New part piece fed none unended takes S =
        none_ended (fed ++ piece) New part
        (takes_all (Stands old.lines.reader) New (old.lines.part.items ++ piece) part (fed ++ piece) takes (S.taken none piece))
        unended

    -- nothing is fed
    pub fed_at_start : (k : Fed G A) → Stands k.lines.reader [] → k.lines.part.items ≡ [] → k.fault ≡ None → IsFed causes Stands k []
    fed_at_start k stands none fine = record {
      taken = λ _ more.
          subst (λ (part : List ℕ). TakesSome causes (Stands k.lines.reader) more (part ++ more)) (sym none)
          (record { lines = []; stands = stands; taken = taken_at_start more });
      told = λ f is more. absurd (none-some f (sym fine ∙ is));
    }

    -- what is seen of it where its grammar has these lines
    abbrev pub seen_as : Fed G A → List (List ℕ) → LinesState
    seen_as k lines = record { lines = lines; part = k.lines.part.items; fault = k.fault }

    pub fed_of : (k : Fed G A) (lines : List (List ℕ)) → (k.fault ≡ None → Stands k.lines.reader lines) → (fed : List ℕ)
        → StandsFor causes (seen_as k lines) fed → IsFed causes Stands k fed
    fed_of k lines stands fed S = record {
      taken = λ none more. record { lines = lines; stands = stands none; taken = S.taken none more };
      told = S.told;
    }

    pub stands_of : (k : Fed G A) (lines : List (List ℕ)) → ForEachLines (Stands k.lines.reader) (λ taken. taken ≡ lines) → (fed : List ℕ)
        → IsFed causes Stands k fed → StandsFor causes (seen_as k lines) fed
    stands_of k lines same fed F = record {
      taken = λ none more.
          let some = F.taken none more in
          subst (λ (ls : List (List ℕ)). IsTaken causes (fed ++ more) ls (k.lines.part.items ++ more)) (same some.lines some.stands) some.taken;
      told = F.told;
    }
