-- What one more write makes of a text that is printed piece by piece.
use Rattle.std.proofs.Common.{◌≡◌, ℕ, suc, ◌+◌, ◌-◌, ◌^◌, ◌<◌, ◌≤◌, min, List, [], ◌∷◌, ◌++◌, get_or, subst, length}
use Rattle.std.proofs.Common.{take, drop, Option, Result, Ok, Err, OnOk, OnErr, IfErr, refl, sym, ap, ◌∙◌, arith}
use Rattle.std.proofs.Common.{append-nil, append_assoc, length-append, length-drop}
use Rattle.std.proofs.{KnownBytes.{Appends-trans, Appends-nil}, Math.Seq.drop-cons, lemmas.Grind.flat_map-append}
use Rattle.std.{proofs.lemmas.List.{take_more, take-append-drop, length-take-le}, specs.{Bool.⊤, List.flat_map}}
use Rattle.std.specs.Io.KnownBytes.{Appends}
use Rattle.race_records.specs.declared.{sink.{Sink.Sink, WriteFault.WriteFault}, page.TheConstants.BLOCK}
use Rattle.race_records.specs.{Devices.{written, sink_failures, one_more}, Page.{PageState, IsPrinted, IsCutOff}}
use Rattle.race_records.specs.Page.{Prints, BreaksOff, WaitsIfRoom, Printing, count_of_bytes}

-- a count goes on where it stopped
counted_more : (sent : ℕ) (out bytes : List ℕ) (more : ℕ) → sent ≡ count_of_bytes (length out) → more ≡ length bytes
    → min (sent + more) (2 ^ 64 - 1) ≡ count_of_bytes (length (out ++ bytes))
counted_more sent out bytes more is len = omega (arith, is, len, length-append out bytes)

module _ (start before after : Option (List ℕ)) (page : PageState) (text : List ℕ) (printed : IsPrinted start before page text) where
  -- all that waited went out
  pub all_out : (sent : ℕ) → Appends before after page.waiting → sent ≡ min (page.sent + length page.waiting) (2 ^ 64 - 1)
      → IsPrinted start after (record { waiting = []; sent = sent }) text
  all_out sent went is = record {
    out = printed.out ++ page.waiting;
    split = printed.split ∙ sym (append-nil (printed.out ++ page.waiting));
    appended = Appends-trans start before after printed.out page.waiting printed.appended went;
    counted = is ∙ counted_more page.sent printed.out page.waiting (length page.waiting) printed.counted refl;
  }

  -- only the first n bytes of what waited went out
  pub part_out : (n sent : ℕ) → n < length page.waiting → Appends before after (take n page.waiting) → sent ≡ min (page.sent + n) (2 ^ 64 - 1)
      → IsCutOff start after sent text
  part_out n sent short went is = record {
    out = printed.out ++ take n page.waiting;
    rest = drop n page.waiting;
    split = printed.split ∙ ap (λ l. printed.out ++ l) (sym (take-append-drop n page.waiting))
        ∙ sym (append_assoc printed.out (take n page.waiting) (drop n page.waiting));
    short = omega (arith, short, length-drop n page.waiting);
    appended = Appends-trans start before after printed.out (take n page.waiting) printed.appended went;
    counted = is ∙ counted_more page.sent printed.out (take n page.waiting) n printed.counted (sym (length-take-le n page.waiting (omega (arith, short))));
  }

  -- bytes that went out at once, where nothing waited
  pub all_sent : (bytes : List ℕ) (sent : ℕ) → page.waiting ≡ [] → Appends before after bytes → sent ≡ min (page.sent + length bytes) (2 ^ 64 - 1)
      → IsPrinted start after (record { waiting = []; sent = sent }) (text ++ bytes)
  all_sent bytes sent none went is = record {
    out = printed.out ++ bytes;
    split = ap (λ l. l ++ bytes) (printed.split ∙ ap (λ l. printed.out ++ l) none ∙ append-nil printed.out) ∙ sym (append-nil (printed.out ++ bytes));
    appended = Appends-trans start before after printed.out bytes printed.appended went;
    counted = is ∙ counted_more page.sent printed.out bytes (length bytes) printed.counted refl;
  }

  pub part_sent : (bytes : List ℕ) (n sent : ℕ) → page.waiting ≡ [] → n < length bytes → Appends before after (take n bytes)
      → sent ≡ min (page.sent + n) (2 ^ 64 - 1) → IsCutOff start after sent (text ++ bytes)
  part_sent bytes n sent none short went is = record {
    out = printed.out ++ take n bytes;
    rest = drop n bytes;
    split = ap (λ l. l ++ bytes) (printed.split ∙ ap (λ l. printed.out ++ l) none ∙ append-nil printed.out)
        ∙ ap (λ l. printed.out ++ l) (sym (take-append-drop n bytes)) ∙ sym (append_assoc printed.out (take n bytes) (drop n bytes));
    short = omega (arith, short, length-drop n bytes);
    appended = Appends-trans start before after printed.out (take n bytes) printed.appended went;
    counted = is ∙ counted_more page.sent printed.out (take n bytes) n printed.counted (sym (length-take-le n bytes (omega (arith, short))));
  }

-- a text that is cut off is so with more behind it
pub cut_off_more : (start now : Option (List ℕ)) (sent : ℕ) (text bytes : List ℕ) → IsCutOff start now sent text → IsCutOff start now sent (text ++ bytes)
cut_off_more start now sent text bytes cut = record {
  out = cut.out;
  rest = cut.rest ++ bytes;
  split = ap (λ l. l ++ bytes) cut.split ∙ append_assoc cut.out cut.rest bytes;
  short = let short = cut.short in omega (arith, short, length-append cut.rest bytes);
  appended = cut.appended;
  counted = cut.counted;
}

-- the pieces before the next are those so far and one more
pub pieces_more : {X : Type 0} (piece : X → List ℕ) (xs : List X) (i : ℕ) (d : X) → i < length xs
    → flat_map piece (take (i + 1) xs) ≡ flat_map piece (take i xs) ++ piece (get_or xs i d)
pieces_more piece xs i d within =
    ap (flat_map piece) (take_more xs i d within) ∙ flat_map-append piece (take i xs) (get_or xs i d ∷ [])
    ∙ ap (λ l. flat_map piece (take i xs) ++ l) (append-nil (piece (get_or xs i d)))

-- all pieces are those before one, that one, and those behind it
pub pieces_split : {X : Type 0} (piece : X → List ℕ) (xs : List X) (i : ℕ) (d : X) → i < length xs
    → flat_map piece xs ≡ (flat_map piece (take i xs) ++ piece (get_or xs i d)) ++ flat_map piece (drop (i + 1) xs)
pieces_split piece xs i d within =
    ap (flat_map piece) (sym (take-append-drop (i + 1) xs)) ∙ flat_map-append piece (take (i + 1) xs) (drop (i + 1) xs)
    ∙ ap (λ l. l ++ flat_map piece (drop (i + 1) xs)) (pieces_more piece xs i d within)

-- pieces that are cut off within piece i
pub cut_off_in_pieces : {X : Type 0} (piece : X → List ℕ) (start now : Option (List ℕ)) (sent : ℕ) (text : List ℕ) (xs : List X) (i : ℕ) (d : X) → i < length xs
    → IsCutOff start now sent ((text ++ flat_map piece (take i xs)) ++ piece (get_or xs i d)) → IsCutOff start now sent (text ++ flat_map piece xs)
cut_off_in_pieces piece start now sent text xs i d within cut =
    let rest = flat_map piece (drop (suc i) xs) in
    let split : flat_map piece xs ≡ flat_map piece (take i xs) ++ (piece (get_or xs i d) ++ rest) =
    ap (flat_map piece) (sym (take-append-drop i xs) ∙ ap (λ l. take i xs ++ l) (drop-cons xs i d within))
    ∙ flat_map-append piece (take i xs) (get_or xs i d ∷ drop (suc i) xs) in
    subst (λ (l : List ℕ). IsCutOff start now sent l)
    (append_assoc (text ++ flat_map piece (take i xs)) (piece (get_or xs i d)) rest
    ∙ append_assoc text (flat_map piece (take i xs)) (piece (get_or xs i d) ++ rest) ∙ ap (λ l. text ++ l) (sym split))
    (cut_off_more start now sent ((text ++ flat_map piece (take i xs)) ++ piece (get_or xs i d)) rest cut)

-- bytes that go on behind what was put
pub prints_on : (a b c : Option (List ℕ)) (p q r : PageState) (xs ys : List ℕ) → Prints a b p q xs → Prints b c q r ys → Prints a c p r (xs ++ ys)
prints_on a b c p q r xs ys first next =
    λ start text printed. subst (λ (l : List ℕ). IsPrinted start c r l) (append_assoc text xs ys) (next start (text ++ xs) (first start text printed))

-- bytes that break off behind what was put
pub breaks_off_on : (a b c : Option (List ℕ)) (p q : PageState) (sent : ℕ) (xs ys : List ℕ) → Prints a b p q xs → BreaksOff b c q sent ys
    → BreaksOff a c p sent (xs ++ ys)
breaks_off_on a b c p q sent xs ys first next =
    λ start text printed. subst (λ (l : List ℕ). IsCutOff start c sent l) (append_assoc text xs ys) (next start (text ++ xs) (first start text printed))

-- nothing is printed on a page on which nothing waits
first_page : (start : Option (List ℕ)) (page : PageState) → page.waiting ≡ [] → page.sent ≡ 0 → IsPrinted start start page []
first_page start page none unsent = record { out = []; split = sym none; appended = Appends-nil start; counted = unsent }

-- where nothing waits, all is out
all_is_out : (start now : Option (List ℕ)) (page : PageState) (text : List ℕ) → page.waiting ≡ [] → IsPrinted start now page text → Appends start now text
all_is_out start now page text none printed =
    subst (λ (l : List ℕ). Appends start now l) (sym (printed.split ∙ ap (λ l. printed.out ++ l) none ∙ append-nil printed.out)) printed.appended

module _ (start middle : Option (List ℕ)) (page next : PageState) (text : List ℕ) (none : page.waiting ≡ []) (unsent : page.sent ≡ 0) where
  -- what was put on the page
  put_on : Prints start middle page next text → IsPrinted start middle next text
  put_on prints = prints start [] (first_page start page none unsent)

  -- and was sent to its end
  pub flushed : {E : Type 0} (r : Result ⊤ E) (now : Option (List ℕ)) (last : PageState) → Prints start middle page next text
      → OnOk r (last.waiting ≡ []) → OnOk r ((s : Option (List ℕ)) (t : List ℕ) → IsPrinted s middle next t → IsPrinted s now last t)
      → OnOk r (Appends start now text)
  flushed (Ok x) now last prints empty sends = all_is_out start now last text empty (sends start text (put_on prints))
  flushed (Err e) now last prints empty sends = tt

  pub cut_off : (now : Option (List ℕ)) (sent : ℕ) → Prints start middle page next text
      → ((s : Option (List ℕ)) (t : List ℕ) → IsPrinted s middle next t → IsCutOff s now sent t) → IsCutOff start now sent text
  cut_off now sent prints cuts = cuts start text (put_on prints)

-- a page that breaks off at once
pub broken_off : (start now : Option (List ℕ)) (page : PageState) (sent : ℕ) (text : List ℕ) → page.waiting ≡ [] → page.sent ≡ 0
    → BreaksOff start now page sent text → IsCutOff start now sent text
broken_off start now page sent text none unsent breaks = breaks start [] (first_page start page none unsent)

-- what holds of an answer, by what holds of it already
pub OnOk-map : {T E : Type 0} (r : Result T E) (P Q : Type 0) → (P → Q) → OnOk r P → OnOk r Q
OnOk-map (Ok x) P Q f h = f h
OnOk-map (Err e) P Q f h = tt

pub IfErr-map : {T E : Type 0} (r : Result T E) (P Q : E → Type 0) → ((e : E) → P e → Q e) → IfErr r P → IfErr r Q
IfErr-map (Ok x) P Q f h = tt
IfErr-map (Err e) P Q f h = f e h

pub OnErr-map : {T E : Type 0} (r : Result T E) (P Q : Type 0) → (P → Q) → OnErr r P → OnErr r Q
OnErr-map (Ok x) P Q f h = tt
OnErr-map (Err e) P Q f h = f h

-- bytes that wait behind others that wait
pub waits_on : {W E : Type 0} (r : Result ⊤ E) (a b c : Sink W) (p q s : PageState) (xs ys : List ℕ)
    → (length p.waiting + length xs ≤ BLOCK → (b ≡ a) × (q.waiting ≡ p.waiting ++ xs))
    → WaitsIfRoom r b c q s ys → WaitsIfRoom r a c p s (xs ++ ys)
waits_on r a b c p q s xs ys first next = λ room.
    let both = length-append xs ys in
    let before = first (omega (arith, room, both)) in
    let len : length q.waiting ≡ length p.waiting + length xs = ap length before.1 ∙ length-append p.waiting xs in
    let last = next (omega (arith, room, both, len)) in
    (last.0, last.1 ∙ before.0, last.2 ∙ ap (λ l. l ++ ys) before.1 ∙ append_assoc p.waiting xs ys)

-- bytes that are printed behind others
pub prints_behind : {W : Type 0} {contents : W → Option (List ℕ)} {r : Result ⊤ WriteFault} {a b c : Sink W} {p q s : PageState} {xs ys : List ℕ}
    → Printing contents (Ok tt) a b p q xs
    → Printing contents r b c q s ys → Printing contents r a c p s (xs ++ ys)
prints_behind {W} {contents} {r} {a} {b} {c} {p} {q} {s} {xs} {ys} first next = record {
  ok = OnOk-map r _ _ (prints_on (written contents a) (written contents b) (written contents c) p q s xs ys first.ok) next.ok;
  sent = IfErr-map r _ _ (λ (fault : WriteFault) breaks. breaks_off_on (written contents a)
      (written contents b) (written contents c) p q fault.sent xs ys first.ok breaks) next.sent;
  calm = OnOk-map r _ _ (λ (same : sink_failures c ≡ sink_failures b). same ∙ first.calm) next.calm;
  failed = OnErr-map r _ _ (λ (more : sink_failures c ≡ one_more (sink_failures b)). more ∙ ap one_more first.calm) next.failed;
  waits = waits_on r a b c p q s xs ys (λ room. let before = first.waits room in (before.1, before.2)) next.waits;
}

-- bytes that break off do so with more behind them
pub breaks_off_before : {W : Type 0} {contents : W → Option (List ℕ)} {fault : WriteFault} {a b : Sink W} {p q : PageState} {xs : List ℕ} (ys : List ℕ)
    → Printing contents (Err fault) a b p q xs
    → Printing contents (Err fault) a b p q (xs ++ ys)
breaks_off_before {W} {contents} {fault} {a} {b} {p} {q} {xs} ys broke = record {
  ok = tt;
  sent = λ start text printed. subst (λ (l : List ℕ). IsCutOff start (written contents b) fault.sent l)
      (append_assoc text xs ys) (cut_off_more start (written contents b) fault.sent (text ++ xs) ys (broke.sent start text printed));
  calm = tt;
  failed = broke.failed;
  waits = λ room. let none = (broke.waits (omega (arith, room, length-append xs ys))).0 in absurd (cc none);
}

module _ {W : Type 0} {contents : W → Option (List ℕ)} {a b c : Sink W} {p q s : PageState} {X : Type 0}
    (piece : X → List ℕ) (xs : List X) (i : ℕ) (d : X) (within : i < length xs) where
  -- one piece more
  pub piece_behind : Printing contents (Ok tt) a b p q (flat_map piece (take i xs)) → Printing contents (Ok tt) b c q s (piece (get_or xs i d))
      → Printing contents (Ok tt) a c p s (flat_map piece (take (i + 1) xs))
  piece_behind first next = subst (λ (l : List ℕ). Printing contents (Ok tt) a c p s l) (sym (pieces_more piece xs i d within)) (prints_behind first next)

  -- a piece that breaks off, and more pieces behind it
  pub piece_breaks_off : {fault : WriteFault} → Printing contents (Ok tt) a b p q (flat_map piece (take i xs))
      → Printing contents (Err fault) b c q s (piece (get_or xs i d)) → Printing contents (Err fault) a c p s (flat_map piece xs)
  piece_breaks_off {fault} first next =
      subst (λ (l : List ℕ). Printing contents (Err fault) a c p s l) (sym (pieces_split piece xs i d within))
      (breaks_off_before (flat_map piece (drop (i + 1) xs)) (prints_behind first next))
