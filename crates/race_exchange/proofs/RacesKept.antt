-- The races of a list, where independent neighbours have changed places.
use Rattle.std.proofs.Common.{◌↔◌, ℕ, List, ◌∷◌, ◌++◌, length, sym, ap, ◌∙◌, subst, inl, inr}
use Rattle.race_records.specs.declared.event.Event.{Event}
use Rattle.race_model.specs.{Order.HappensBefore, Race.{IsAccessOf, IsWriteOf, Conflict, IsRace}}
use Rattle.race_exchange.specs.Exchange.{IsExchanged, SameButForOrder, same, exchanged, HasRaceOn}
use Rattle.race_exchange.proofs.Moved.{moved, moved_back, at_moved}
use Rattle.race_exchange.proofs.{Apart.{Apart, apart, apart_other_way}, ReachesKept.reaches_moved}

module _ (caps : ℕ → ℕ) (before rest : List Event) (a b : Event) (free : Apart a b) where
  abbrev listed : List Event
  listed = before ++ a ∷ b ∷ rest

  abbrev turned : List Event
  turned = before ++ b ∷ a ∷ rest

  -- what happens before, accesses and conflicts move along
  pub happens_before_moved : (i j : ℕ) → HappensBefore caps listed i j → HappensBefore caps turned (moved (length before) i) (moved (length before) j)
  happens_before_moved i j (e, f, at, att, w) =
      (e, f, at_moved before rest a b i e at, at_moved before rest a b j f att, reaches_moved caps before rest a b free w)

  access_moved : (x i : ℕ) → IsAccessOf listed x i → IsAccessOf turned x (moved (length before) i)
  access_moved x i (e, at, is) = (e, at_moved before rest a b i e at, is)

  write_moved : (x i : ℕ) → IsWriteOf listed x i → IsWriteOf turned x (moved (length before) i)
  write_moved x i (e, at, is) = (e, at_moved before rest a b i e at, is)

  conflict_moved : (x i j : ℕ) → Conflict listed x i j → Conflict turned x (moved (length before) i) (moved (length before) j)
  conflict_moved x i j (differ, first, second, w) = (
    (λ equal. differ (sym (moved_back (length before) i) ∙ (ap (moved (length before)) equal ∙ moved_back (length before) j))),
    access_moved x i first,
    access_moved x j second,
    elim w [ inl p ↦ inl (write_moved x i p) | inr q ↦ inr (write_moved x j q) ],
  )

-- what doesn't happen before doesn't once the two have changed places
not_before_moved : (caps : ℕ → ℕ) (before rest : List Event) (a b : Event) → Apart a b → (i j : ℕ) → ¬ HappensBefore caps (before ++ a ∷ b ∷ rest) i j
    → ¬ HappensBefore caps (before ++ b ∷ a ∷ rest) (moved (length before) i) (moved (length before) j)
not_before_moved caps before rest a b free i j not w =
    not (subst (λ i. HappensBefore caps (before ++ a ∷ b ∷ rest) i j) (moved_back (length before) i)
    (subst (λ j. HappensBefore caps (before ++ a ∷ b ∷ rest) (moved (length before) (moved (length before) i)) j) (moved_back (length before) j)
    (happens_before_moved caps before rest b a (apart_other_way a b free) (moved (length before) i) (moved (length before) j) w)))

-- a race stays one
race_moved : (caps : ℕ → ℕ) (before rest : List Event) (a b : Event) → Apart a b → (x i j : ℕ) → IsRace caps (before ++ a ∷ b ∷ rest) x i j
    → IsRace caps (before ++ b ∷ a ∷ rest) x (moved (length before) i) (moved (length before) j)
race_moved caps before rest a b free x i j r = record {
  conflict = conflict_moved caps before rest a b free x i j r.conflict;
  not_before = not_before_moved caps before rest a b free i j r.not_before;
  not_after = not_before_moved caps before rest a b free j i r.not_after;
}

-- so the same variables have one
has_race_moved : (caps : ℕ → ℕ) (before rest : List Event) (a b : Event) → Apart a b → (x : ℕ) → HasRaceOn caps (before ++ a ∷ b ∷ rest) x
    → HasRaceOn caps (before ++ b ∷ a ∷ rest) x
has_race_moved caps before rest a b free x (i, j, r) = (moved (length before) i, moved (length before) j, race_moved caps before rest a b free x i j r)

-- and so they do after one exchange
pub race_exchanged : (caps : ℕ → ℕ) (one other : List Event) (x : ℕ) → IsExchanged one other → HasRaceOn caps one x ↔ HasRaceOn caps other x
race_exchanged caps one other x is = (
  (λ race. subst (λ events. HasRaceOn caps events x) (sym is.other_is)
      (has_race_moved caps is.before (is.next ∷ is.after) is.a is.b are_apart x (subst (λ events. HasRaceOn caps events x) is.one_is race))),
  (λ race. subst (λ events. HasRaceOn caps events x) (sym is.one_is)
      (has_race_moved caps is.before (is.next ∷ is.after) is.b is.a (apart_other_way is.a is.b are_apart) x
      (subst (λ events. HasRaceOn caps events x) is.other_is race))),
)
  where
    are_apart : Apart is.a is.b
    are_apart = apart is.a is.b is.independent

-- and after any number
pub races_kept : (caps : ℕ → ℕ) {one other : List Event} (x : ℕ) → SameButForOrder one other → HasRaceOn caps one x ↔ HasRaceOn caps other x
races_kept caps x same = ((λ race. race), (λ race. race))
races_kept caps x (exchanged {one} {other} {last} is rest) = go (race_exchanged caps one other x is) (races_kept caps x rest)
  where
    go : HasRaceOn caps one x ↔ HasRaceOn caps other x → HasRaceOn caps other x ↔ HasRaceOn caps last x → HasRaceOn caps one x ↔ HasRaceOn caps last x
    go (there, back) (on, down) = ((λ race. on (there race)), (λ race. back (down race)))
