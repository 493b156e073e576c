-- The table of what asks say, and its way back; and the table of the words of lines.
use Rattle.std.proofs.Common.{◌≡◌, ℕ, ◌&&◌, Bool, true, false, true≢false, if◌then◌else◌, List, [], ◌∷◌}
use Rattle.std.proofs.Math.Bool.{and-true}
use Rattle.std.proofs.Common.{◌++◌, map, codes, Option, Some, None, IfSome, option_map, refl, sym, ap, subst, ◌∙◌}
use Rattle.std.{proofs.lemmas.{Option.{none-some, same_Some}, Slice.Eq.bytes_eq-Decides}, specs.List.list_all}
use Rattle.std.specs.{Option.option_and_then, Str.bytes_eq}
use Rattle.race_records.specs.declared.{kind.{Kind.Kind, Named.Named}, operands.{Operand.Operand, OperandKind.OperandKind}}
use Rattle.race_records.specs.declared.{version.Version.Version, decl_keywords.DeclKeyword.DeclKeyword}
use Rattle.race_records.specs.{Declarations.{Declaration}, Name.is_place_byte, Operands.object_alone}
use Rattle.race_records.specs.Operands.{object_value, suit, operand_fits, operand_is_limited}
use Rattle.race_records.proofs.OperandLaws.{named_by, alone_again, valued_again}
use Rattle.race_requests.specs.{declared.request.{Ask.Ask, Offer.Offer}, Sound.has_ask}
use Rattle.race_text.specs.{declared.form.Word.Word, Fault.declared_as, Form.word_named, Writing.{decl_keyword_text, operand_text}}
use Rattle.race_text.specs.Select.{nil}
use Rattle.race_text.proofs.{WantedOperands.are_wanted, WordLemmas.both}
use Rattle.race_script.specs.{declared.form.{StepKeyword.StepKeyword, LineKeyword.LineKeyword, TheConstants.BODY_WORDS}, Form.lookup}
use Rattle.race_script.specs.Form.{decl_keyword_or, line_word, has_ask_word, has_line_word, as_had, line_word_in, word_on_nil}
use Rattle.race_script.specs.{Form.{ask_kinds, value_alone, if_none, ask_by}, Program.ask_fits, Text.ask_words}

-- an ask's word and operands
abbrev pub SaidAsk : Type 0
SaidAsk = StepKeyword × List Operand

-- what is asked, by its word and operands; a select is in no table
abbrev pub ask_says : Ask → Option SaidAsk
ask_says (Ask.Go h) = Some (StepKeyword.Go, Operand.Object (Named.Goroutine h) ∷ [])
ask_says Ask.Exit = Some (StepKeyword.Exit, [])
ask_says (Ask.Read x) = Some (StepKeyword.Read, Operand.Object (Named.Var x) ∷ [])
ask_says (Ask.Write x v) = Some (StepKeyword.Write, Operand.Object (Named.Var x) ∷ Operand.Value v ∷ [])
ask_says (Ask.Send (Some c) v) = Some (StepKeyword.Send, Operand.Object (Named.Chan c) ∷ Operand.Value v ∷ [])
ask_says (Ask.Send None v) = Some (StepKeyword.SendNil, Operand.Value v ∷ [])
ask_says (Ask.Recv (Some c)) = Some (StepKeyword.Recv, Operand.Object (Named.Chan c) ∷ [])
ask_says (Ask.Recv None) = Some (StepKeyword.RecvNil, [])
ask_says (Ask.Close (Some c)) = Some (StepKeyword.Close, Operand.Object (Named.Chan c) ∷ [])
ask_says (Ask.Close None) = Some (StepKeyword.CloseNil, [])
ask_says (Ask.Select offers has_default) = None
ask_says (Ask.Lock l) = Some (StepKeyword.Lock, Operand.Object (Named.Lock l) ∷ [])
ask_says (Ask.Unlock l) = Some (StepKeyword.Unlock, Operand.Object (Named.Lock l) ∷ [])
ask_says (Ask.RLock l) = Some (StepKeyword.RLock, Operand.Object (Named.Lock l) ∷ [])
ask_says (Ask.RUnlock l) = Some (StepKeyword.RUnlock, Operand.Object (Named.Lock l) ∷ [])
ask_says (Ask.TryLock l) = Some (StepKeyword.TryLock, Operand.Object (Named.Lock l) ∷ [])
ask_says (Ask.TryRLock l) = Some (StepKeyword.TryRLock, Operand.Object (Named.Lock l) ∷ [])
ask_says (Ask.Do o) = Some (StepKeyword.Do, Operand.Object (Named.Once o) ∷ [])
ask_says (Ask.EndDo o) = Some (StepKeyword.EndDo, Operand.Object (Named.Once o) ∷ [])

-- what holds of all that is said holds of this
pub so_it_says : (Holds : SaidAsk → Type 0) (said : Option SaidAsk) (it : SaidAsk) → said ≡ Some it → IfSome said Holds → Holds it
so_it_says Holds said it is h = subst (λ o. IfSome o Holds) is h

-- where nothing is, it is a select
pub selects_alone : (ask : Ask) → ask_says ask ≡ None → (offers : List Offer) × (has_default : Bool) × (ask ≡ Ask.Select offers has_default)
selects_alone (Ask.Select offers has_default) h = (offers, has_default, refl)
selects_alone (Ask.Send None v) h = absurd (none-some _ (sym h))
selects_alone (Ask.Send (Some c) v) h = absurd (none-some _ (sym h))
selects_alone (Ask.Recv None) h = absurd (none-some _ (sym h))
selects_alone (Ask.Recv (Some c)) h = absurd (none-some _ (sym h))
selects_alone (Ask.Close None) h = absurd (none-some _ (sym h))
selects_alone (Ask.Close (Some c)) h = absurd (none-some _ (sym h))
selects_alone _ h = absurd (none-some _ (sym h))

-- the bytes of the first word of a line
abbrev pub first_text : LineKeyword → List ℕ
first_text (LineKeyword.Declares decl_keyword) = decl_keyword_text decl_keyword
first_text LineKeyword.Begins = codes "body"
first_text LineKeyword.Selects = codes "select"
first_text (LineKeyword.Asks StepKeyword.Go) = codes "go"
first_text (LineKeyword.Asks StepKeyword.Exit) = codes "exit"
first_text (LineKeyword.Asks StepKeyword.Read) = codes "read"
first_text (LineKeyword.Asks StepKeyword.Write) = codes "write"
first_text (LineKeyword.Asks StepKeyword.Send) = codes "send"
first_text (LineKeyword.Asks StepKeyword.SendNil) = []
first_text (LineKeyword.Asks StepKeyword.Recv) = codes "recv"
first_text (LineKeyword.Asks StepKeyword.RecvNil) = []
first_text (LineKeyword.Asks StepKeyword.Close) = codes "close"
first_text (LineKeyword.Asks StepKeyword.CloseNil) = []
first_text (LineKeyword.Asks StepKeyword.Lock) = codes "lock"
first_text (LineKeyword.Asks StepKeyword.Unlock) = codes "unlock"
first_text (LineKeyword.Asks StepKeyword.RLock) = codes "rlock"
first_text (LineKeyword.Asks StepKeyword.RUnlock) = codes "runlock"
first_text (LineKeyword.Asks StepKeyword.TryLock) = codes "trylock"
first_text (LineKeyword.Asks StepKeyword.TryRLock) = codes "tryrlock"
first_text (LineKeyword.Asks StepKeyword.Do) = codes "do"
first_text (LineKeyword.Asks StepKeyword.EndDo) = codes "enddo"

-- the words in front of the operands
abbrev pub front_words : StepKeyword → List (List ℕ)
front_words StepKeyword.SendNil = codes "send" ∷ nil ∷ []
front_words StepKeyword.RecvNil = codes "recv" ∷ nil ∷ []
front_words StepKeyword.CloseNil = codes "close" ∷ nil ∷ []
front_words word = first_text (LineKeyword.Asks word) ∷ []

-- the words of an ask are those that it says
pub ask_words_are : (ds : List Declaration) (place : List ℕ) (ask : Ask)
    → IfSome (ask_says ask) (λ said. ask_words ds place ask ≡ front_words said.0 ++ (map (operand_text ds) said.1 ++ place ∷ []))
ask_words_are ds place (Ask.Send None v) = refl
ask_words_are ds place (Ask.Send (Some c) v) = refl
ask_words_are ds place (Ask.Recv None) = refl
ask_words_are ds place (Ask.Recv (Some c)) = refl
ask_words_are ds place (Ask.Close None) = refl
ask_words_are ds place (Ask.Close (Some c)) = refl
ask_words_are ds place (Ask.Select offers has_default) = tt
ask_words_are ds place _ = refl

-- what an ask says leads back to it
pub says_again : (ask : Ask) → IfSome (ask_says ask) (λ said. ask_by said.0 said.1 ≡ Some ask)
says_again (Ask.Send None v) = refl
says_again (Ask.Send (Some c) v) = refl
says_again (Ask.Recv None) = refl
says_again (Ask.Recv (Some c)) = refl
says_again (Ask.Close None) = refl
says_again (Ask.Close (Some c)) = refl
says_again (Ask.Select offers has_default) = tt
says_again _ = refl

-- operands of a value alone are that value
value_again : (operands : List Operand) (v : ℕ) → value_alone operands ≡ Some v → operands ≡ Operand.Value v ∷ []
value_again (Operand.Value w ∷ []) v e = ap (λ n. Operand.Value n ∷ []) (same_Some w v e)
value_again _ v e = absurd (none-some v e)

-- where operands of a form give an ask, it says these operands
made_says : {X : Type 0} (make : X → Ask) (said : X → SaidAsk) → ((x : X) → ask_says (make x) ≡ Some (said x))
    → (found : Option X) (ask : Ask) (word : StepKeyword) (operands : List Operand)
    → ((x : X) → found ≡ Some x → said x ≡ (word, operands)) → option_map make found ≡ Some ask → ask_says ask ≡ Some (word, operands)
made_says make said is (Some x) ask word operands again e = ap ask_says (sym (same_Some (make x) ask e)) ∙ is x ∙ ap Some (again x refl)
made_says make said is None ask word operands again e = absurd (none-some ask e)

-- what is asked by a word and operands says these
pub ask_by_says : (word : StepKeyword) (operands : List Operand) (ask : Ask) → ask_by word operands ≡ Some ask → ask_says ask ≡ Some (word, operands)
ask_by_says word operands ask e = by word e
  where
    alone : (make : ℕ → Ask) (word : StepKeyword) (kind : Kind) → ((n : ℕ) → ask_says (make n) ≡ Some (word, Operand.Object (named_by kind n) ∷ []))
        → option_map make (object_alone kind operands) ≡ Some ask → ask_says ask ≡ Some (word, operands)
    alone make word kind says_it e = made_says make (λ n. (word, Operand.Object (named_by kind n) ∷ [])) says_it (object_alone kind operands) ask word operands
        (λ n found i. (word, sym (alone_again kind operands n found) i)) e

    valued_by : (make : ℕ × ℕ → Ask) (word : StepKeyword) (kind : Kind)
        → ((p : ℕ × ℕ) → ask_says (make p) ≡ Some (word, Operand.Object (named_by kind p.0) ∷ Operand.Value p.1 ∷ []))
        → option_map make (object_value kind operands) ≡ Some ask → ask_says ask ≡ Some (word, operands)
    valued_by make word kind says_it e =
        made_says make (λ p. (word, Operand.Object (named_by kind p.0) ∷ Operand.Value p.1 ∷ [])) says_it (object_value kind operands) ask word operands
        (λ p found i. (word, sym (valued_again kind operands p found) i)) e

    nothing : (made : Ask) (word : StepKeyword) → ask_says made ≡ Some (word, [])
        → (operands : List Operand) → if_none made operands ≡ Some ask → ask_says ask ≡ Some (word, operands)
    nothing made word says_it [] e = ap ask_says (sym (same_Some made ask e)) ∙ says_it
    nothing made word says_it _ e = absurd (none-some ask e)

    by : (word : StepKeyword) → ask_by word operands ≡ Some ask → ask_says ask ≡ Some (word, operands)
    by StepKeyword.Go e = alone Ask.Go StepKeyword.Go Kind.Goroutine (λ n. refl) e
    by StepKeyword.Exit e = nothing Ask.Exit StepKeyword.Exit refl operands e
    by StepKeyword.Read e = alone Ask.Read StepKeyword.Read Kind.Var (λ n. refl) e
    by StepKeyword.Write e = valued_by (λ p. Ask.Write p.0 p.1) StepKeyword.Write Kind.Var (λ p. refl) e
    by StepKeyword.Send e = valued_by (λ p. Ask.Send (Some p.0) p.1) StepKeyword.Send Kind.Chan (λ p. refl) e
    by StepKeyword.SendNil e = made_says (λ v. Ask.Send None v) (λ v. (StepKeyword.SendNil, Operand.Value v ∷ []))
        (λ v. refl) (value_alone operands) ask StepKeyword.SendNil operands
        (λ v found i. (StepKeyword.SendNil, sym (value_again operands v found) i)) e
    by StepKeyword.Recv e = alone (λ c. Ask.Recv (Some c)) StepKeyword.Recv Kind.Chan (λ n. refl) e
    by StepKeyword.RecvNil e = nothing (Ask.Recv None) StepKeyword.RecvNil refl operands e
    by StepKeyword.Close e = alone (λ c. Ask.Close (Some c)) StepKeyword.Close Kind.Chan (λ n. refl) e
    by StepKeyword.CloseNil e = nothing (Ask.Close None) StepKeyword.CloseNil refl operands e
    by StepKeyword.Lock e = alone Ask.Lock StepKeyword.Lock Kind.Lock (λ n. refl) e
    by StepKeyword.Unlock e = alone Ask.Unlock StepKeyword.Unlock Kind.Lock (λ n. refl) e
    by StepKeyword.RLock e = alone Ask.RLock StepKeyword.RLock Kind.Lock (λ n. refl) e
    by StepKeyword.RUnlock e = alone Ask.RUnlock StepKeyword.RUnlock Kind.Lock (λ n. refl) e
    by StepKeyword.TryLock e = alone Ask.TryLock StepKeyword.TryLock Kind.Lock (λ n. refl) e
    by StepKeyword.TryRLock e = alone Ask.TryRLock StepKeyword.TryRLock Kind.Lock (λ n. refl) e
    by StepKeyword.Do e = alone Ask.Do StepKeyword.Do Kind.Once (λ n. refl) e
    by StepKeyword.EndDo e = alone Ask.EndDo StepKeyword.EndDo Kind.Once (λ n. refl) e

-- operands that the word wants are an ask's
pub ask_is_there : (word : StepKeyword) (operands : List Operand) → suit (ask_kinds word) operands ≡ true → (ask : Ask) × (ask_by word operands ≡ Some ask)
ask_is_there StepKeyword.Go (Operand.Object (Named.Goroutine n) ∷ []) e = (Ask.Go n, refl)
ask_is_there StepKeyword.Exit [] e = (Ask.Exit, refl)
ask_is_there StepKeyword.Read (Operand.Object (Named.Var n) ∷ []) e = (Ask.Read n, refl)
ask_is_there StepKeyword.Write (Operand.Object (Named.Var n) ∷ Operand.Value v ∷ []) e = (Ask.Write n v, refl)
ask_is_there StepKeyword.Send (Operand.Object (Named.Chan n) ∷ Operand.Value v ∷ []) e = (Ask.Send (Some n) v, refl)
ask_is_there StepKeyword.SendNil (Operand.Value v ∷ []) e = (Ask.Send None v, refl)
ask_is_there StepKeyword.Recv (Operand.Object (Named.Chan n) ∷ []) e = (Ask.Recv (Some n), refl)
ask_is_there StepKeyword.RecvNil [] e = (Ask.Recv None, refl)
ask_is_there StepKeyword.Close (Operand.Object (Named.Chan n) ∷ []) e = (Ask.Close (Some n), refl)
ask_is_there StepKeyword.CloseNil [] e = (Ask.Close None, refl)
ask_is_there StepKeyword.Lock (Operand.Object (Named.Lock n) ∷ []) e = (Ask.Lock n, refl)
ask_is_there StepKeyword.Unlock (Operand.Object (Named.Lock n) ∷ []) e = (Ask.Unlock n, refl)
ask_is_there StepKeyword.RLock (Operand.Object (Named.Lock n) ∷ []) e = (Ask.RLock n, refl)
ask_is_there StepKeyword.RUnlock (Operand.Object (Named.Lock n) ∷ []) e = (Ask.RUnlock n, refl)
ask_is_there StepKeyword.TryLock (Operand.Object (Named.Lock n) ∷ []) e = (Ask.TryLock n, refl)
ask_is_there StepKeyword.TryRLock (Operand.Object (Named.Lock n) ∷ []) e = (Ask.TryRLock n, refl)
ask_is_there StepKeyword.Do (Operand.Object (Named.Once n) ∷ []) e = (Ask.Do n, refl)
ask_is_there StepKeyword.EndDo (Operand.Object (Named.Once n) ∷ []) e = (Ask.EndDo n, refl)
ask_is_there _ _ e = absurd (true≢false (sym e))

-- an ask fits where its operands do
abbrev pub operands_fit : List Declaration → List OperandKind → List Operand → Bool
operands_fit ds kinds operands = list_all (operand_fits ds) operands && list_all operand_is_limited operands && are_wanted ds kinds operands

pub fits_are : (ds : List Declaration) (ask : Ask) → IfSome (ask_says ask) (λ said. ask_fits ds ask ≡ operands_fit ds (ask_kinds said.0) said.1)
fits_are ds (Ask.Send (Some c) v) = simp and-true
fits_are ds (Ask.Send None v) = simp and-true
fits_are ds (Ask.Recv (Some c)) = simp and-true
fits_are ds (Ask.Recv None) = refl
fits_are ds (Ask.Close (Some c)) = simp and-true
fits_are ds (Ask.Close None) = refl
fits_are ds Ask.Exit = refl
fits_are ds (Ask.Select offers has_default) = tt
fits_are ds _ = simp and-true

-- a version has an ask just where it has its word
pub had_by_word : (version : Version) (ask : Ask) → IfSome (ask_says ask) (λ said. has_ask version ask ≡ has_ask_word version said.0)
had_by_word version (Ask.Send None v) = refl
had_by_word version (Ask.Send (Some c) v) = refl
had_by_word version (Ask.Recv None) = refl
had_by_word version (Ask.Recv (Some c)) = refl
had_by_word version (Ask.Close None) = refl
had_by_word version (Ask.Close (Some c)) = refl
had_by_word version (Ask.Select offers has_default) = tt
had_by_word version _ = refl

-- each version has what can be asked of nil
pub has_on_nil : (version : Version) (word other : StepKeyword) → word_on_nil word ≡ Some other → has_ask_word version other ≡ true
has_on_nil version StepKeyword.Send other h = ap (has_ask_word version) (sym (same_Some StepKeyword.SendNil other h))
has_on_nil version StepKeyword.Recv other h = ap (has_ask_word version) (sym (same_Some StepKeyword.RecvNil other h))
has_on_nil version StepKeyword.Close other h = ap (has_ask_word version) (sym (same_Some StepKeyword.CloseNil other h))
has_on_nil version _ other h = absurd (none-some other h)

-- a word that is found is one of the version
pub found_is_had : (version : Version) (w : List ℕ) (word : LineKeyword) → line_word_in version w ≡ Some word
    → (line_word w ≡ Some word) × (has_line_word version word ≡ true)
found_is_had version w word h = by (line_word w) refl h
  where
    had : (found : LineKeyword) (b : Bool) → has_line_word version found ≡ b → line_word w ≡ Some found → (if b then Some found else None) ≡ Some word
        → (line_word w ≡ Some word) × (has_line_word version word ≡ true)
    had found true has is h = let same = same_Some found word h in (is ∙ ap Some same, ap (has_line_word version) (sym same) ∙ has)
    had found false has is h = absurd (none-some word h)

    by : (o : Option LineKeyword) → line_word w ≡ o → option_and_then (as_had version) o ≡ Some word
        → (line_word w ≡ Some word) × (has_line_word version word ≡ true)
    by (Some found) is h = had found (has_line_word version found) refl is h
    by None is h = absurd (none-some word h)

-- and a word that the version has is found
pub had_is_found : (version : Version) (w : List ℕ) (word : LineKeyword) → line_word w ≡ Some word → has_line_word version word ≡ true
    → line_word_in version w ≡ Some word
had_is_found version w word is has = ap (option_and_then (as_had version)) is ∙ ap (λ b. if b then Some word else None) has

abbrev table : List (List ℕ × LineKeyword)
table = map (λ entry. (entry.0.now, entry.1)) BODY_WORDS

-- what holds of each entry holds of what is found
found_in : (test : List ℕ → LineKeyword → Bool) (entries : List (List ℕ × LineKeyword)) (w : List ℕ) (word : LineKeyword) → lookup entries w ≡ Some word
    → list_all (λ (e : List ℕ × LineKeyword). test e.0 e.1) entries ≡ true → test w word ≡ true
found_in test [] w word h all = absurd (none-some word h)
found_in test (e ∷ es) w word h all = by (bytes_eq w e.0) refl h (λ rest. found_in test es w word rest (both (test e.0 e.1) _ all).1)
  where
    by : (b : Bool) → bytes_eq w e.0 ≡ b → (if b then Some e.1 else lookup es w) ≡ Some word → (lookup es w ≡ Some word → test w word ≡ true)
        → test w word ≡ true
    by true same h others = (λ i. test ((bytes_eq-Decides w e.0).0 same i) (sym (same_Some e.1 word h) i)) ∙ (both (test e.0 e.1) _ all).0
    by false other h others = others h

-- no word of the table declares
abbrev declares_nothing : LineKeyword → Bool
declares_nothing (LineKeyword.Declares decl_keyword) = false
declares_nothing _ = true

-- what holds of a first word that begins a line of a body
pub record IsBodyWord (w : List ℕ) (word : LineKeyword) : Type 0 where
  pub text : w ≡ first_text word
  pub seen : list_all is_place_byte w ≡ true
  pub declares : (args : List (List ℕ)) → declared_as (word_named w) args ≡ None

pub body_word : (w : List ℕ) (word : LineKeyword) → line_word w ≡ Some word → declares_nothing word ≡ true → IsBodyWord w word
unfolding line_word
body_word w word h body = by (word_named w) refl h
  where
    by : (o : Option Word) → word_named w ≡ o → decl_keyword_or o (lookup table w) ≡ Some word → IsBodyWord w word
    by (Some (Word.Declares decl_keyword)) e h = absurd (true≢false (sym body ∙ ap declares_nothing (sym (same_Some (LineKeyword.Declares decl_keyword) word h))))
    by (Some (Word.Does op_keyword)) e h = record {
      text = (bytes_eq-Decides w (first_text word)).0 (found_in (λ w word. bytes_eq w (first_text word)) table w word h refl);
      seen = found_in (λ w word. list_all is_place_byte w) table w word h refl;
      declares = λ args. ap (λ o. declared_as o args) e;
    }
    by None e h = record {
      text = (bytes_eq-Decides w (first_text word)).0 (found_in (λ w word. bytes_eq w (first_text word)) table w word h refl);
      seen = found_in (λ w word. list_all is_place_byte w) table w word h refl;
      declares = λ args. ap (λ o. declared_as o args) e;
    }

-- a word that declares is one in a trace
pub decl_keyword_word : (w : List ℕ) (decl_keyword : DeclKeyword) → line_word w ≡ Some (LineKeyword.Declares decl_keyword) → word_named w ≡ Some (Word.Declares decl_keyword)
unfolding line_word
decl_keyword_word w decl_keyword h = by (word_named w) refl h
  where
    other : lookup table w ≡ Some (LineKeyword.Declares decl_keyword) → word_named w ≡ Some (Word.Declares decl_keyword)
    other h = absurd (true≢false (sym (found_in (λ w word. declares_nothing word) table w (LineKeyword.Declares decl_keyword) h refl)))

    by : (o : Option Word) → word_named w ≡ o → decl_keyword_or o (lookup table w) ≡ Some (LineKeyword.Declares decl_keyword) → word_named w ≡ Some (Word.Declares decl_keyword)
    by (Some (Word.Declares n)) e h = let same = same_Some (LineKeyword.Declares n) (LineKeyword.Declares decl_keyword) h in cc
    by (Some (Word.Does op_keyword)) e h = other h
    by None e h = other h

pub decl_keyword_line_word : (w : List ℕ) (decl_keyword : DeclKeyword) → word_named w ≡ Some (Word.Declares decl_keyword) → line_word w ≡ Some (LineKeyword.Declares decl_keyword)
unfolding line_word
decl_keyword_line_word w decl_keyword h = ap (λ o. decl_keyword_or o (lookup table w)) h

-- in each version
pub decl_keyword_word_in : (version : Version) (w : List ℕ) (decl_keyword : DeclKeyword) → word_named w ≡ Some (Word.Declares decl_keyword)
    → line_word_in version w ≡ Some (LineKeyword.Declares decl_keyword)
decl_keyword_word_in version w decl_keyword h = had_is_found version w (LineKeyword.Declares decl_keyword) (decl_keyword_line_word w decl_keyword h) refl

-- the words of lines of bodies are found
pub begins_again : line_word (codes "body") ≡ Some LineKeyword.Begins
unfolding line_word word_named
begins_again = refl

pub selects_again : line_word (codes "select") ≡ Some LineKeyword.Selects
unfolding line_word word_named
selects_again = refl

-- the table has no word of nil
abbrev pub has_front : LineKeyword → Bool
has_front (LineKeyword.Asks StepKeyword.SendNil) = false
has_front (LineKeyword.Asks StepKeyword.RecvNil) = false
has_front (LineKeyword.Asks StepKeyword.CloseNil) = false
has_front _ = true

pub found_has_front : (w : List ℕ) (word : LineKeyword) → line_word w ≡ Some word → has_front word ≡ true
unfolding line_word
found_has_front w word h = by (word_named w) h
  where
    by : (o : Option Word) → decl_keyword_or o (lookup table w) ≡ Some word → has_front word ≡ true
    by (Some (Word.Declares decl_keyword)) h = ap has_front (sym (same_Some (LineKeyword.Declares decl_keyword) word h))
    by (Some (Word.Does op_keyword)) h = found_in (λ w word. has_front word) table w word h refl
    by None h = found_in (λ w word. has_front word) table w word h refl
