-- The text of a trace has no fault.
use Rattle.std.proofs.Common.{◌≡◌, ◌≢◌, ℕ, suc, ◌+◌, ◌<◌, Bool, true, false, nat_le, nat_lt, cond, if◌then◌else◌, List}
use Rattle.std.proofs.Common.{[], ◌∷◌, ◌++◌, length, map, get_or, Some, None, is_some, refl, sym, ap, subst, ◌∙◌, arith}
use Rattle.std.proofs.{Common.{true≢false, append-nil, append_assoc}, lemmas.Bool.Decides.nat_tests}
use Rattle.std.proofs.lemmas.List.{length-append, map-append, Elements.filter-append, Sums.position_or_len_is}
use Rattle.std.{proofs.Math.{ListN.get_or-append, Seq.get_or-append_seam}, specs.{Option.option_and_then, Str.bytes_eq}}
use Rattle.race_records.specs.declared.{event.Event.Event, kind.{Named.Named, Object.Object}}
use Rattle.race_records.specs.{declared.{trace.TheConstants.MAX_EVENTS, version.Version.Version}, Name.{main, is_name}}
use Rattle.race_records.specs.Declarations.{Declaration, DeclsState, IsWellFormed, kind_of, is_of_kind, of_kind}
use Rattle.race_records.specs.Declarations.{count_of, limit_of, is_too_wide, declared_at, find_name, decl_fault}
use Rattle.race_records.specs.{Events.TraceState, DeclKeywords.object_says}
use Rattle.race_text.specs.{declared.{cause.{TextCause.TextCause, TextFault.TextFault}, form.Word.Word}, Text.header}
use Rattle.race_text.specs.{Text.{declaration_line, event_line, lines, text, HasText, IsTraceText}, Words.words_of}
use Rattle.race_text.specs.{Form.{first_word, arguments}, Lines.{fault_after, first_fault}, Fault.{Seen, seen}}
use Rattle.race_text.specs.Fault.{seen_so_far, header_cause, line_cause, word_cause, cause, end_cause, trace_causes}
use Rattle.race_text.{specs.Fault.text_fault, proofs.DeclarationLemmas.{fault_by, said_fine}}
use Rattle.race_text.proofs.{HeaderLemmas.version_again, NamesAgain.differ, ParseLemmas.{AreFine, fine_both}}
use Rattle.race_text.proofs.{ParseLemmas.{fine_lines, only_memory}, ReaderLemmas.header_says}
use Rattle.race_text.proofs.TextLaws.{declaration_again, is_no_event, event_at, lines_again}
use Rattle.race_text.proofs.{TraceLemmas.{clean_line, seen_declaration, seen_event}, WordTable.word_of_version}

no_end_cause : (before : List (List ℕ)) → 0 < length before → end_cause before [] ≡ None
no_end_cause before some = by (nat_lt 0 (length before)) (grind (arith, nat_tests, some))
  where
    by : (b : Bool) → b ≡ true → (if b then None else cause before [] false) ≡ None
    by true h = refl
    by false h = absurd (true≢false (sym h))

of_own_kind : (o : Object) → is_of_kind (kind_of o) o ≡ true
of_own_kind Object.Goroutine = refl
of_own_kind Object.Var = refl
of_own_kind (Object.Chan capacity) = refl
of_own_kind (Object.Lock rw) = refl
of_own_kind Object.Once = refl

-- a declaration among others: nothing refuses it behind those before it
module _ (decls : DeclsState) (holds : IsWellFormed decls) (before after : List Declaration)
    (d : Declaration) (is : before ++ d ∷ after ≡ decls.declarations) where
  abbrev ds : List Declaration
  ds = decls.declarations

  pub here : get_or ds (length before) d ≡ d
  here = ap (λ l. get_or l (length before) d) (sym is) ∙ get_or-append_seam before d after d

  pub within : length before < length ds
  within = let l = ap length (sym is) ∙ length-append before (d ∷ after) in omega (arith, l)

  form : is_name d.name ≡ true
  form = ap (λ (x : Declaration). is_name x.name) (sym here) ∙ holds.names (length before) d within

  not_main : bytes_eq d.name main ≡ false
  not_main = differ d.name main (λ same. holds.not_main (length before) d within (ap (λ (x : Declaration). x.name) here ∙ same))

  differs_before : (k : ℕ) → k < length before → bytes_eq d.name (get_or before k d).name ≡ false
  differs_before k less =
      let there : get_or ds k d ≡ get_or before k d = ap (λ l. get_or l k d) (sym is) ∙ get_or-append before (d ∷ after) d k less in
      differ d.name (get_or before k d).name
      (λ same. holds.distinct k (length before) d less within (ap (λ (x : Declaration). x.name) there ∙ sym same ∙ ap (λ (x : Declaration). x.name) (sym here)))

  is_new : find_name before d.name ≡ None
  is_new =
      let last = position_or_len_is (λ (e : Declaration). bytes_eq d.name e.name) before
      (length before) d (omega arith) differs_before (λ less. absurd (omega (arith, less))) in
      let over : nat_lt (length before) (length before) ≡ false = grind (arith, nat_tests) in
      (λ j. if not_main j then Some (Named.Goroutine 0) else option_and_then (declared_at before) (cond (nat_lt (last j) (length before)) (Some (last j)) None))
      ∙ ap (λ t. option_and_then (declared_at before) (cond t (Some (length before)) None)) over

  has_room : count_of (kind_of d.object) before < limit_of (kind_of d.object)
  has_room =
      let kind = kind_of d.object in
      let all : length (of_kind kind ds) ≡ length (of_kind kind before) + length (of_kind kind (d ∷ after)) =
      ap (λ l. length (of_kind kind l)) (sym is) ∙ ap length (filter-append (λ (x : Declaration). is_of_kind kind x.object) before (d ∷ after))
      ∙ length-append (of_kind kind before) (of_kind kind (d ∷ after)) in
      let own : length (of_kind kind (d ∷ after)) ≡ suc (length (of_kind kind after)) =
      ap (λ b. length (if b then d ∷ of_kind kind after else of_kind kind after)) (of_own_kind d.object) in
      let limited = holds.limited kind in
      omega (arith, all, own, limited)

  narrow : is_too_wide d.object ≡ false
  narrow = ap (λ (x : Declaration). is_too_wide x.object) (sym here) ∙ holds.capacities (length before) d within

  pub allowed : decl_fault before d.object d.name ≡ None
  unfolding decl_fault
  allowed =
      by (is_name d.name) (is_some (find_name before d.name)) (nat_le (limit_of (kind_of d.object)) (count_of (kind_of d.object) before)) (is_too_wide d.object)
      form (ap is_some is_new) (let room = has_room in grind (arith, nat_tests, room)) narrow
    where
      by : (a b c e : Bool) → a ≡ true → b ≡ false → c ≡ false → e ≡ false
          → fault_by a b c e ≡ None
      by true false false false _ _ _ _ = refl
      by true false false true _ _ _ h = absurd (true≢false h)
      by true false true e _ _ h _ = absurd (true≢false h)
      by true true c e _ h _ _ = absurd (true≢false h)
      by false b c e h _ _ _ = absurd (true≢false (sym h))

  -- so no cause holds at its line, in any version
  pub no_cause : (version : Version) → line_cause version (seen_so_far before 0) (declaration_line d) ≡ None
  no_cause version =
      let line = declaration_again d form narrow in
      let known = word_of_version version (first_word (words_of (declaration_line d))) (Word.Declares (object_says d.object).0) line.named refl in
      clean_line version (seen_so_far before 0) (declaration_line d) line.clean
      ∙ (λ j. word_cause (seen_so_far before 0) (known j) (arguments (line.words j)))
      ∙ said_fine before d.name d.object allowed

-- the cause of a line behind the header and others
cause_by_seen : (version : Version) (others : List (List ℕ)) (line : List ℕ) (s : Seen) → seen (header version ∷ others) ≡ s
    → cause (header version ∷ others) line true ≡ line_cause version s line
unfolding cause
cause_by_seen version others line s is =
    ap (option_and_then (λ v. line_cause v (seen (header version ∷ others)) line)) (version_again version) ∙ ap (λ x. line_cause version x line) is

module _ (t : TraceState) (has : HasText t) where
  abbrev declared : List Declaration
  declared = t.decls.declarations

  abbrev version : Version
  version = t.decls.version

  abbrev first : List ℕ
  first = header version

  abbrev print : Event → List ℕ
  print e = event_line t.decls e

  declarations_fine : (before after : List Declaration) → before ++ after ≡ declared → seen (first ∷ map declaration_line before) ≡ seen_so_far before 0
      → AreFine trace_causes (first ∷ map declaration_line before) (map declaration_line after)
      × (seen (first ∷ map declaration_line declared) ≡ seen_so_far declared 0)
  declarations_fine before [] is says =
      (tt, subst (λ (ds : List Declaration). seen (first ∷ map declaration_line ds) ≡ seen_so_far ds 0) (sym (append-nil before) ∙ is) says)
  declarations_fine before (d ∷ after) is says =
      let at = here t.decls has.well_formed before after d is in
      let less = within t.decls has.well_formed before after d is in
      let name : is_name d.name ≡ true = ap (λ (x : Declaration). is_name x.name) (sym at) ∙ has.well_formed.names (length before) d less in
      let narrow = ap (λ (x : Declaration). is_too_wide x.object) (sym at) ∙ has.well_formed.capacities (length before) d less in
      let line = declaration_again d name narrow in
      let more = map-append declaration_line before (d ∷ []) in
      let rest = declarations_fine (before ++ d ∷ []) after (append_assoc before (d ∷ []) after ∙ is)
      (ap (λ ls. seen (first ∷ ls)) more
      ∙ seen_declaration (first ∷ map declaration_line before) (declaration_line d) before d says line.declares (is_no_event d (declaration_line d) line)) in (
        (
          cause_by_seen version (map declaration_line before) (declaration_line d) (seen_so_far before 0) says ∙ no_cause t.decls has.well_formed before after d is version,
          subst (λ ls. AreFine trace_causes (first ∷ ls) (map declaration_line after)) more rest.0,
        ),
        rest.1,
      )

  events_fine : (done rest : List Event) → done ++ rest ≡ t.events
      → seen (first ∷ map declaration_line declared ++ map print done) ≡ seen_so_far declared (length done)
      → AreFine trace_causes (first ∷ map declaration_line declared ++ map print done) (map print rest)
  events_fine done [] is says = tt
  events_fine done (e ∷ rest) is says =
      let at : get_or t.events (length done) e ≡ e = ap (λ l. get_or l (length done) e) (sym is) ∙ get_or-append_seam done e rest e in
      let all = ap length (sym is) ∙ length-append done (e ∷ rest) in
      let less : length done < length t.events = omega (arith, all) in
      let line = event_at t has (length done) e less in
      let same : print (get_or t.events (length done) e) ≡ print e = ap print at in
      let limited = has.is_trace.limited in
      let room : nat_le MAX_EVENTS (length done) ≡ false = grind (arith, nat_tests, less, limited) in
      let head = map declaration_line declared ++ map print done in
      let fine : line_cause version (seen_so_far declared (length done)) (print (get_or t.events (length done) e)) ≡ None =
      clean_line version (seen_so_far declared (length done)) (print (get_or t.events (length done) e)) line.clean
      ∙ line.cause_is (length done) ∙ ap (λ b. if b then Some TextCause.TooMany else None) room in
      let more : map declaration_line declared ++ map print (done ++ e ∷ []) ≡ head ++ print e ∷ [] =
      ap (λ l. map declaration_line declared ++ l) (map-append print done (e ∷ []))
      ∙ sym (append_assoc (map declaration_line declared) (map print done) (print e ∷ [])) in
      let told : seen (first ∷ head ++ print e ∷ []) ≡ seen_so_far declared (length done + 1) =
      ap (λ l. seen (first ∷ head ++ l ∷ [])) (sym same)
      ∙ seen_event (first ∷ head) (print (get_or t.events (length done) e)) declared (length done) says line.declares line.is_event in
      let next = events_fine (done ++ e ∷ []) rest (append_assoc done (e ∷ []) rest ∙ is)
      (ap (λ ls. seen (first ∷ ls)) more ∙ told ∙ ap (seen_so_far declared) (sym (length-append done (e ∷ [])))) in (
        ap (λ l. cause (first ∷ head) l true) (sym same)
            ∙ cause_by_seen version head (print (get_or t.events (length done) e)) (seen_so_far declared (length done)) says ∙ fine,
        subst (λ ls. AreFine trace_causes (first ∷ ls) (map print rest)) more next,
      )

  header_fine : cause [] first true ≡ None
  unfolding cause
  header_fine = ap (λ v. header_cause v true) (version_again version)

  lines_fine : AreFine trace_causes [] (lines t)
  unfolding lines
  lines_fine =
      let declared_fine = declarations_fine [] declared refl (header_says version) in
      let none_done : first ∷ map declaration_line declared ++ [] ≡ first ∷ map declaration_line declared =
      append-nil (first ∷ map declaration_line declared) in (
        header_fine,
        fine_both trace_causes (first ∷ []) (map declaration_line declared) (map print t.events) declared_fine.0
            (subst (λ ls. AreFine trace_causes ls (map print t.events)) none_done (events_fine [] t.events refl (ap seen none_done ∙ declared_fine.1))),
      )

  some_lines : 0 < length (lines t)
  unfolding lines
  some_lines = omega arith

  pub text_has_no_fault : text_fault (text t) ≡ None
  unfolding first_fault
  text_has_no_fault = ap (fault_after trace_causes []) (lines_again t has) ∙ fine_lines trace_causes [] (lines t) (no_end_cause (lines t) some_lines) lines_fine

-- so a trace's text is refused for memory alone
pub text_is_accepted : (bytes : List ℕ) (told : TextFault) → (told.cause ≢ TextCause.OutOfMemory → text_fault bytes ≡ Some told) → IsTraceText bytes
    → told.cause ≡ TextCause.OutOfMemory
text_is_accepted bytes told is_fault is = only_memory (text_fault bytes) told is_fault (ap text_fault is.1.printed ∙ text_has_no_fault is.0 is.1.has_text)
