-- The text of a program has no fault, and says the program.
use Rattle.std.proofs.Common.{◌≡◌, ◌≢◌, ℕ, suc, ◌+◌, ◌<◌, ◌≤◌, ◌==◌, ◌&&◌, ◌||◌, Bool, true, false, true≢false, not}
use Rattle.std.proofs.Common.{nat_lt, nat_le, if◌then◌else◌, is_some, List, [], ◌∷◌, ◌++◌, length, map, fold, get_or}
use Rattle.std.proofs.Common.{Some, None, refl, sym, ap, subst, ◌∙◌, arith, append-nil, append_assoc}
use Rattle.std.proofs.lemmas.{Bool.Decides.nat_tests, List.{length-append, length-map, map-append, append_cancel_right}}
use Rattle.std.proofs.lemmas.{List.{Concat.flat_map-cons, Sums.fold-append}, Grind.flat_map-append}
use Rattle.std.{proofs.Math.ListN.get_or-append, specs.List.{list_all, flat_map, AllByRecursion}}
use Rattle.std.specs.Option.{option_map_or, option_and_then}
use Rattle.race_records.specs.declared.{declarations.TheConstants.MAX_PLACES, kind.Kind.Kind, version.Version.Version}
use Rattle.race_records.specs.Declarations.{Declaration, DeclsState, IsWellFormed, count_of, is_known}
use Rattle.race_records.specs.Equality.{Declared, declared}
use Rattle.race_requests.specs.{declared.request.Request.Request, Sound.has_ask}
use Rattle.race_text.specs.{declared.cause.{TextCause.TextCause, TextFault.TextFault}, Lines.{fault_after, first_fault}}
use Rattle.race_text.specs.{Text.declaration_line, Words.{parts_of, has_bad_byte, words_of}}
use Rattle.race_text.specs.{Fault.{seen_so_far, header_cause, word_cause as text_cause}, Form.{first_word, arguments}}
use Rattle.race_text.proofs.{ParseLemmas.{AreFine, fine_both, fine_lines, only_memory}, WordLemmas.both}
use Rattle.race_text.proofs.{WordsAgain.operands_again, EventsAgain.place_again}
use Rattle.race_text.proofs.{TextFine.{here, no_cause, within as within_all}, TextLaws.IsDeclarationLine}
use Rattle.race_text.proofs.{TraceLemmas.clean_line, WordTable.word_of_version}
use Rattle.race_script.specs.{declared.program.TheConstants.MAX_STEPS, Bodies.{is_exit, after_ask, onces_after, ends}}
use Rattle.race_script.specs.{Bodies.is_body, Fault.{said_cause, line_cause, cause, program_causes, text_fault}}
use Rattle.race_script.specs.{Fault.{is_whole, has_no_room, may_follow, word_cause, may_begin}, Program.Instruction}
use Rattle.race_script.specs.Program.{Draft, ProgramState, IsProgram, draft_of, declared_by, with_place, places_of}
use Rattle.race_script.specs.Program.{ask_fits, asks_of, request_fits, is_body_of, instruction, spelled, asked_by}
use Rattle.race_script.specs.{Reading.{with_said, seen}, Text.{header, Said, Asks, said_line, saids, lines, draft_text}}
use Rattle.race_script.{specs.{Text.{program_text, IsProgramText}, Form.line_word_in}, proofs.AskTable.decl_keyword_word_in}
use Rattle.race_script.proofs.ReadLemmas.{declaration_lines, header_said, nothing_but, seen_by_lines, seen_declared}
use Rattle.race_script.proofs.ReadLemmas.{lines_declared, end_behind}
use Rattle.race_script.proofs.{TakingLemmas.{onces_more, places_grown}, BodyLemmas.exit_is_last}
use Rattle.race_script.proofs.CourseLemmas.{asks_spelled}
use Rattle.race_script.proofs.{SaidAgain.said_again, LineLemmas.{grown, SaidFits, IsSaidLine, said_keeps, seen_said}}
use Rattle.race_script.proofs.LineLemmas.{lines_said, cause_behind}

-- each of what is said may stand behind the others
abbrev Stand : Draft → List Said → Type 0
Stand d [] = Unit
Stand d (s ∷ ss) = SaidFits (declared_by d) s × (said_cause d s ≡ None) × Stand (with_said d s) ss

-- lines of bodies behind others
record IsWalked (d : Draft) (ss : List Said) : Type 0 where
  fine : AreFine program_causes (lines d) (map (said_line d.declarations) ss)
  lines_are : lines (fold with_said d ss) ≡ lines d ++ map (said_line d.declarations) ss
  seen_is : seen (lines (fold with_said d ss)) ≡ fold with_said d ss
  clean : AllByRecursion (λ l. has_bad_byte l ≡ false) (map (said_line d.declarations) ss)

walked : (decls : DeclsState) → IsWellFormed decls → (d : Draft) → declared decls ≡ declared_by d
    → seen (lines d) ≡ d → (ss : List Said) → Stand d ss → IsWalked d ss
walked decls holds d same is [] stand = record { fine = tt; lines_are = sym (append-nil (lines d)); seen_is = is; clean = tt }
walked decls holds d same is (s ∷ ss) stand =
    let both_are : (IsSaidLine (declared_by d) (said_line d.declarations s) s) × (has_bad_byte (said_line d.declarations s) ≡ false) =
    subst (λ w. (IsSaidLine w (said_line w.declarations s) s) × (has_bad_byte (said_line w.declarations s) ≡ false)) same
    (said_again decls holds s (subst (λ w. SaidFits w s) (sym same) stand.0)) in
    let line = both_are.0 in
    let next = with_said d s in
    let keeps : declared_by next ≡ declared_by d = said_keeps d s in
    let after : lines next ≡ lines d ++ said_line d.declarations s ∷ [] = lines_said d s stand.1 in
    let seen_next : seen (lines next) ≡ next = ap seen after ∙ seen_said (said_line d.declarations s) d s is line.declares line.says in
    let rest = walked decls holds next (same ∙ sym keeps) seen_next ss stand.2 in
    let others : map (said_line next.declarations) ss ≡ map (said_line d.declarations) ss = ap (λ (w : Declared). map (said_line w.declarations) ss) keeps in
    record {
      fine = (
        cause_behind d (said_line d.declarations s) is ∙ line.cause_is d refl ∙ stand.1,
        subst (λ (p : List (List ℕ) × List (List ℕ)). AreFine program_causes p.0 p.1) (λ k. (after k, others k)) rest.fine,
      );
      lines_are = rest.lines_are ∙ (λ k. after k ++ others k) ∙ append_assoc (lines d) (said_line d.declarations s ∷ []) (map (said_line d.declarations) ss);
      seen_is = rest.seen_is;
      clean = (both_are.1, subst (λ ls. AllByRecursion (λ l. has_bad_byte l ≡ false) ls) others rest.clean);
    }

-- places with those of more instructions
abbrev step : List (List ℕ) → Instruction → List (List ℕ)
step places i = with_place places i.place

step_grows : (places : List (List ℕ)) (i : Instruction) → length places ≤ length (step places i)
step_grows places i = by (is_known places i.place)
  where
    by : (b : Bool) → length places ≤ length (if b then places else places ++ i.place ∷ [])
    by true = omega arith
    by false = omega (arith, length-append places (i.place ∷ []))

steps_grow : (places : List (List ℕ)) (is : List Instruction) → length places ≤ length (fold step places is)
steps_grow places [] = omega arith
steps_grow places (i ∷ is) = let first = step_grows places i in let rest = steps_grow (step places i) is in omega (arith, first, rest)

room_left : (places : List (List ℕ)) (i : Instruction) → length (step places i) ≤ MAX_PLACES → has_no_room places i.place ≡ false
room_left places i few = by (is_known places i.place) few
  where
    by : (b : Bool) → length (if b then places else places ++ i.place ∷ []) ≤ MAX_PLACES → (not b && nat_le MAX_PLACES (length places)) ≡ false
    by true few = refl
    by false few = let more = length-append places (i.place ∷ []) in grind (arith, nat_tests, few, more)

-- the instructions fit, and their places have a place's form
abbrev FitAll : Declared → List Instruction → Type 0
FitAll w is = AllByRecursion (λ i. SaidFits w (Asks i)) is

module _ (w : Declared) where
  abbrev within : List (List Instruction) → List Instruction → Draft
  within done body = record { version = w.version; declarations = w.declarations; ended = done; unended = Some body }

  abbrev behind : List (List Instruction) → Draft
  behind done = record { version = w.version; declarations = w.declarations; ended = done; unended = None }

  -- what follows a body stands behind it
  record Follows (d : Draft) (ss : List Said) (last : Draft) : Type 0 where
    stand : Stand d ss
    ends_as : fold with_said d ss ≡ last

  said_stays : (done : List (List Instruction)) (body : List Instruction) (i : Instruction) (b : Bool)
      → is_exit i.ask ≡ b → with_said (within done body) (Asks i) ≡ grown (within done body) i body b
  said_stays done body i b e = ap (grown (within done body) i body) e

  body_stands : (done : List (List Instruction)) (more : List Said) (left : List Instruction) (last : Draft) (rest body : List Instruction) (onces : List ℕ)
      → onces_after [] (asked_by body) ≡ Some onces → ends onces (asked_by rest) ≡ true → FitAll w rest → length body + length rest ≤ MAX_STEPS
      → length (fold step (fold step (places_of (within done body)) rest) left) ≤ MAX_PLACES
      → Follows (behind (done ++ (body ++ rest) ∷ [])) more last → Follows (within done body) (map Asks rest ++ more) last
  body_stands done more left last [] body onces h e fit few places follows = absurd (true≢false (sym e))
  body_stands done more left last (i ∷ is) body onces h e fit few places follows =
      by (is_exit i.ask) refl (λ inside h' e'. body_stands done more left last is (body ++ i ∷ []) inside h' e' fit.1
      (let len = length-append body (i ∷ []) in omega (arith, len, few))
      (subst (λ p. length (fold step (fold step p is) left) ≤ MAX_PLACES) (sym (places_grown (within done body) i body false refl)) places)
      (subst (λ b. Follows (behind (done ++ b ∷ [])) more last) (sym (append_assoc body (i ∷ []) is)) follows))
    where
      room : has_no_room (places_of (within done body)) i.place ≡ false
      room = room_left (places_of (within done body)) i
          (let a = steps_grow (step (places_of (within done body)) i) is in
          let b = steps_grow (fold step (places_of (within done body)) (i ∷ is)) left in omega (arith, a, b, places))

      fine : may_follow (Some onces) i.ask ≡ true → said_cause (within done body) (Asks i) ≡ None
      fine may =
          let short : nat_le MAX_STEPS (length body) ≡ false = grind (arith, nat_tests, few) in
          λ k. if short k || room k then Some TextCause.TooMany else (if (ap (λ o. may_follow o i.ask) h ∙ may) k then None else Some TextCause.BadBlock)

      goes : may_follow (Some onces) i.ask ≡ true → (next : Draft) → with_said (within done body) (Asks i) ≡ next
          → Follows next (map Asks is ++ more) last → Follows (within done body) (Asks i ∷ (map Asks is ++ more)) last
      goes may next is_next rest = record {
        stand = (fit.0, fine may, subst (λ d. Stand d (map Asks is ++ more)) (sym is_next) rest.stand);
        ends_as = ap (λ d. fold with_said d (map Asks is ++ more)) is_next ∙ rest.ends_as;
      }

      by : (b : Bool) → is_exit i.ask ≡ b
          → ((inside : List ℕ) → onces_after [] (asked_by (body ++ i ∷ [])) ≡ Some inside → ends inside (asked_by is) ≡ true
          → Follows (within done (body ++ i ∷ [])) (map Asks is ++ more) last)
          → Follows (within done body) (Asks i ∷ (map Asks is ++ more)) last
      by true exit rest =
          let two = both (length onces == 0) (length (asked_by is) == 0)
          (sym (ap (λ b. if b then (length onces == 0) && (length (asked_by is) == 0) else option_map_or
          (λ inside. ends inside (asked_by is)) (after_ask onces i.ask) false) exit) ∙ e) in
          let none : is ≡ [] = nothing is two.1 in
          goes (ap (λ b. if b then length onces == 0 else is_some (after_ask onces i.ask)) exit ∙ two.0) _ (said_stays done body i true exit)
          (subst (λ (l : List Instruction). Follows (behind (done ++ (body ++ i ∷ []) ∷ [])) (map Asks l ++ more) last) (sym none)
          (subst (λ (l : List Instruction). Follows (behind (done ++ (body ++ i ∷ l) ∷ [])) more last) none follows))
        where
          nothing : (l : List Instruction) → (length (asked_by l) == 0) ≡ true → l ≡ []
          nothing [] h = refl
          nothing (x ∷ xs) h = absurd (let z : length (asked_by (x ∷ xs)) ≡ 0 = grind (arith, nat_tests) in omega (arith, z))
      by false other rest =
          let on = exit_is_last onces i.ask (asked_by is) e other in
          let entered : onces_after [] (asked_by (body ++ i ∷ [])) ≡ Some on.0 =
          ap (onces_after []) (map-append (λ (x : Instruction). x.ask) body (i ∷ [])) ∙ onces_more [] (asked_by body) i.ask
          ∙ ap (option_and_then (λ inside. after_ask inside i.ask)) h ∙ on.1 in
          goes (ap (λ b. if b then length onces == 0 else is_some (after_ask onces i.ask)) other ∙ ap is_some on.1) _ (said_stays done body i false other)
          (rest on.0 entered on.2)

  -- a body that is a goroutine's
  record IsGood (body : List Instruction) : Type 0 where
    nest : ends [] (asked_by body) ≡ true
    fit : FitAll w body
    few : length body ≤ MAX_STEPS

  abbrev AllGood : List (List Instruction) → Type 0
  AllGood bodies = AllByRecursion IsGood bodies

  open_places : (done : List (List Instruction)) → places_of (within done []) ≡ places_of (behind done)
  open_places done = ap (fold step []) (flat_map-append (λ x. x) done ([] ∷ []) ∙ append-nil (flat_map (λ x. x) done))

  more_places : (done : List (List Instruction)) (b : List Instruction) → places_of (behind (done ++ b ∷ [])) ≡ fold step (places_of (behind done)) b
  more_places done b =
      ap (fold step []) (flat_map-append (λ x. x) done (b ∷ []) ∙ ap (λ l. flat_map (λ x. x) done ++ l) (append-nil b))
      ∙ fold-append step [] (flat_map (λ x. x) done) b

  bodies_stand : (rest done : List (List Instruction)) → AllGood rest → length done + length rest ≤ count_of Kind.Goroutine w.declarations
      → length (fold step (places_of (behind done)) (flat_map (λ x. x) rest)) ≤ MAX_PLACES
      → Follows (behind done) (saids (length done) rest) (behind (done ++ rest))
  bodies_stand [] done good few places = record { stand = tt; ends_as = ap behind (sym (append-nil done)) }
  bodies_stand (b ∷ bs) done good few places =
      let cut : fold step (places_of (behind done)) (flat_map (λ x. x) (b ∷ bs)) ≡ fold step (fold step (places_of (behind done)) b) (flat_map (λ x. x) bs) =
      ap (fold step (places_of (behind done))) (flat_map-cons (λ x. x) b bs) ∙ fold-append step (places_of (behind done)) b (flat_map (λ x. x) bs) in
      let len = length-append done (b ∷ []) in
      let e : length (done ++ b ∷ []) ≡ length done + 1 = omega (arith, len) in
      let rest = bodies_stand bs (done ++ b ∷ []) good.1 (omega (arith, len, few))
      (subst (λ n. n ≤ MAX_PLACES) (ap length (cut ∙ ap (λ p. fold step p (flat_map (λ x. x) bs)) (sym (more_places done b)))) places) in
      let inner = body_stands done (saids (length done + 1) bs) (flat_map (λ x. x) bs) (behind (done ++ b ∷ bs)) b [] [] refl good.0.nest good.0.fit
      (let n = good.0.few in omega (arith, n))
      (subst (λ n. n ≤ MAX_PLACES) (ap length (cut ∙ ap (λ p. fold step (fold step p b) (flat_map (λ x. x) bs)) (sym (open_places done)))) places)
      (subst (λ (p : ℕ × List (List Instruction)). Follows (behind (done ++ b ∷ [])) (saids p.0 bs) (behind p.1))
      (λ k. (e k, append_assoc done (b ∷ []) bs k)) rest) in
      let may : may_begin (behind done) (length done) ≡ true = let same : (length done == length done) ≡ true = grind (arith, nat_tests) in same in
      record {
        stand = (omega (arith, few), ap (λ t. if t then None else Some TextCause.BadBlock) may, inner.stand);
        ends_as = inner.ends_as;
      }

-- the declarations
module _ (decls : DeclsState) (holds : IsWellFormed decls) where
  lines_of_prefix : (before after : List Declaration) → before ++ after ≡ decls.declarations → (i : ℕ) (d : Declaration) → i < length before
      → IsDeclarationLine (get_or before i d) (declaration_line (get_or before i d))
  lines_of_prefix before after is i d less =
      let len = ap length (sym is) ∙ length-append before after in
      let same : get_or decls.declarations i d ≡ get_or before i d = ap (λ l. get_or l i d) (sym is) ∙ get_or-append before after d i less in
      subst (λ x. IsDeclarationLine x (declaration_line x)) same (declaration_lines decls holds i d (omega (arith, len, less)))

  one_fine : (before after : List Declaration) (d : Declaration) → before ++ d ∷ after ≡ decls.declarations
      → cause (lines (nothing_but decls.version before)) (declaration_line d) true ≡ None
  unfolding line_cause
  one_fine before after d is =
      let at = here decls holds before after d is in
      let less = within_all decls holds before after d is in
      let line = subst (λ x. IsDeclarationLine x (declaration_line x)) at (declaration_lines decls holds (length before) d less) in
      let first = first_word (words_of (declaration_line d)) in
      let args = arguments (words_of (declaration_line d)) in
      let text = sym (clean_line decls.version (seen_so_far before 0) (declaration_line d) line.clean) ∙ no_cause decls holds before after d is decls.version in
      cause_behind (nothing_but decls.version before) (declaration_line d) (seen_by_lines decls.version before (lines_of_prefix before (d ∷ after) is))
      ∙ ap (λ b. if b then Some TextCause.BadByte else word_cause (nothing_but decls.version before) (line_word_in decls.version first) args) line.clean
      ∙ ap (λ w. word_cause (nothing_but decls.version before) w args) (decl_keyword_word_in decls.version first _ line.named)
      ∙ ap (λ w. text_cause (seen_so_far before 0) w args) (sym (word_of_version decls.version first _ line.named refl))
      ∙ text

  declared_fine : (before after : List Declaration) → before ++ after ≡ decls.declarations
      → AreFine program_causes (lines (nothing_but decls.version before)) (map declaration_line after)
  declared_fine before [] is = tt
  declared_fine before (d ∷ after) is = (
    one_fine before after d is,
    subst (λ ls. AreFine program_causes ls (map declaration_line after)) (lines_declared decls.version before d)
        (declared_fine (before ++ d ∷ []) after (append_assoc before (d ∷ []) after ∙ is)),
  )

  declared_clean : (ds : List Declaration) → ((i : ℕ) (d : Declaration) → i < length ds → IsDeclarationLine (get_or ds i d) (declaration_line (get_or ds i d)))
      → AllByRecursion (λ l. has_bad_byte l ≡ false) (map declaration_line ds)
  declared_clean [] each = tt
  declared_clean (d ∷ ds) each = ((each 0 d (omega arith)).clean, declared_clean ds (λ i e less. each (suc i) e (omega (arith, less))))

clean_both : (xs ys : List (List ℕ)) → AllByRecursion (λ l. has_bad_byte l ≡ false) xs → AllByRecursion (λ l. has_bad_byte l ≡ false) ys
    → AllByRecursion (λ l. has_bad_byte l ≡ false) (xs ++ ys)
clean_both [] ys h k = k
clean_both (x ∷ xs) ys h k = (h.0, clean_both xs ys h.1 k)

header_fine : (version : Version) → cause [] (header version) true ≡ None
unfolding cause
header_fine version = ap (λ o. header_cause o true) (header_said version)

header_lines : (version : Version) → lines (nothing_but version []) ≡ header version ∷ []
unfolding lines
header_lines version = refl

nothing_lines : (version : Version) (ds : List Declaration) → lines (nothing_but version ds) ≡ header version ∷ map declaration_line ds
unfolding lines
nothing_lines version ds = append-nil (header version ∷ map declaration_line ds)

header_clean : (version : Version) → has_bad_byte (header version) ≡ false
header_clean Version.One = refl
header_clean Version.Two = refl

module _ (p : ProgramState) (is : IsProgram p) where
  abbrev version : Version
  version = p.decls.version

  abbrev ds : List Declaration
  ds = p.decls.declarations

  abbrev bodies : List (List Instruction)
  bodies = map (spelled p.decls.places) p.bodies

  fit_all : (body : List Request) → list_all (request_fits p.decls) body ≡ true → FitAll (declared p.decls) (spelled p.decls.places body)
  fit_all [] h = tt
  fit_all (r ∷ rs) h =
      let two = both (request_fits p.decls r) (list_all (request_fits p.decls) rs) h in
      let parts = both (has_ask version r.ask && ask_fits ds r.ask) (nat_lt r.place (length p.decls.places)) two.0 in
      let fits = both (has_ask version r.ask) (ask_fits ds r.ask) parts.0 in
      ((fits.1, place_again p.decls is.well_formed r.place (grind (arith, nat_tests, parts.1)), fits.0), fit_all rs two.1)

  good : (bs : List (List Request)) → list_all (is_body_of p.decls) bs ≡ true → AllGood (declared p.decls) (map (spelled p.decls.places) bs)
  good [] h = tt
  good (b ∷ bs) h =
      let two = both (is_body_of p.decls b) (list_all (is_body_of p.decls) bs) h in
      let three = both (list_all (request_fits p.decls) b && is_body (asks_of b)) (nat_le (length b) MAX_STEPS) two.0 in
      let fits = both (list_all (request_fits p.decls) b) (is_body (asks_of b)) three.0 in
      let len = length-map b (instruction p.decls.places) in
      let low : length b ≤ MAX_STEPS = grind (arith, nat_tests, three.1) in
      (record { nest = ap (ends []) (asks_spelled p.decls.places b) ∙ fits.1; fit = fit_all b fits.0; few = omega (arith, len, low) }, good bs two.1)

  len_bodies : length bodies ≡ count_of Kind.Goroutine ds
  len_bodies = length-map p.bodies (spelled p.decls.places) ∙ is.count

  stand_all : Follows (declared p.decls) (nothing_but version ds) (saids 0 bodies) (draft_of p)
  stand_all = bodies_stand (declared p.decls) bodies [] (good p.bodies is.bodies) (let n = len_bodies in omega (arith, n)) is.few_places

  all_walked : IsWalked (nothing_but version ds) (saids 0 bodies)
  all_walked = walked p.decls is.well_formed (nothing_but version ds) refl (seen_declared p.decls is.well_formed) (saids 0 bodies) stand_all.stand

  seen_is_draft : seen (lines (draft_of p)) ≡ draft_of p
  seen_is_draft = ap (λ d. seen (lines d)) (sym stand_all.ends_as) ∙ all_walked.seen_is ∙ stand_all.ends_as

  lines_are_all : lines (draft_of p) ≡ header version ∷ map declaration_line ds ++ map (said_line ds) (saids 0 bodies)
  lines_are_all = ap lines (sym stand_all.ends_as) ∙ all_walked.lines_are ∙ ap (λ l. l ++ map (said_line ds) (saids 0 bodies)) (nothing_lines version ds)

  all_clean : AllByRecursion (λ l. has_bad_byte l ≡ false) (lines (draft_of p))
  all_clean = subst (λ ls. AllByRecursion (λ l. has_bad_byte l ≡ false) ls) (sym lines_are_all) (
    header_clean version,
    clean_both (map declaration_line ds) (map (said_line ds) (saids 0 bodies))
        (declared_clean p.decls is.well_formed ds (declaration_lines p.decls is.well_formed)) all_walked.clean,
  )

  all_fine : AreFine program_causes [] (lines (draft_of p))
  all_fine = subst (λ ls. AreFine program_causes [] ls) (sym lines_are_all) (
    header_fine version,
    fine_both program_causes (header version ∷ []) (map declaration_line ds) (map (said_line ds) (saids 0 bodies))
        (subst (λ ls. AreFine program_causes ls (map declaration_line ds)) (header_lines version) (declared_fine p.decls is.well_formed [] ds refl))
        (subst (λ ls. AreFine program_causes ls (map (said_line ds) (saids 0 bodies))) (nothing_lines version ds) all_walked.fine),
  )

  pub lines_again : parts_of (program_text p) ≡ lines (draft_of p) ++ [] ∷ []
  unfolding draft_text
  lines_again = operands_again (lines (draft_of p)) all_clean

  pub text_has_no_fault : text_fault (program_text p) ≡ None
  unfolding first_fault
  text_has_no_fault =
      let whole : is_whole (draft_of p) ≡ true = let n = len_bodies in
      let same : (length bodies == count_of Kind.Goroutine ds) ≡ true = grind (arith, nat_tests, n) in same in
      ap (fault_after program_causes []) lines_again
      ∙ fine_lines program_causes [] (lines (draft_of p)) (end_behind (draft_of p) [] true true seen_is_draft refl whole) all_fine

-- equal texts come from equal programs
pub equal_texts : (p q : ProgramState) → IsProgram p → IsProgram q → program_text p ≡ program_text q → draft_of p ≡ draft_of q
equal_texts p q is other same =
    let cut : lines (draft_of p) ≡ lines (draft_of q) =
    append_cancel_right (lines (draft_of p)) (lines (draft_of q)) ([] ∷ []) (sym (lines_again p is) ∙ ap parts_of same ∙ lines_again q other) in
    sym (seen_is_draft p is) ∙ ap seen cut ∙ seen_is_draft q other

-- so a program's text is refused for memory alone
pub text_is_accepted : (bytes : List ℕ) (told : TextFault) → (told.cause ≢ TextCause.OutOfMemory → text_fault bytes ≡ Some told) → IsProgramText bytes
    → told.cause ≡ TextCause.OutOfMemory
text_is_accepted bytes told is_fault is = only_memory (text_fault bytes) told is_fault (ap text_fault is.1.printed ∙ text_has_no_fault is.0 is.1.program)
