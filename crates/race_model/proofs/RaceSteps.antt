-- Events behind the list change nothing among the races of the list.
use Rattle.std.proofs.{Common.{ℕ, ◌<◌, List, ◌++◌, length, sym, ◌∙◌, inl, inr, arith}, lemmas.Bool.cases_lt}
use Rattle.std.proofs.lemmas.Option.{slice_get_within}
use Rattle.race_records.specs.declared.event.Event.{Event}
use Rattle.race_model.specs.{Order.HappensBefore, Race.{IsAccessOf, IsWriteOf, Conflict, IsRace, IsReportedRace}}
use Rattle.race_model.proofs.{Indexes.{slice_get-append, append_at_old}, Ranks.happens_before_up}
use Rattle.race_model.proofs.Grow.{reaches_grow, reaches_old}

-- a race is one whichever event is named first
pub race_turned : (caps : ℕ → ℕ) (events : List Event) (x i j : ℕ) → IsRace caps events x i j → IsRace caps events x j i
race_turned caps events x i j r = record {
  conflict = ((λ same. r.conflict.0 (sym same)), r.conflict.2, r.conflict.1, elim r.conflict.3 [ inl a ↦ inr a | inr b ↦ inl b ]);
  not_before = r.not_after;
  not_after = r.not_before;
}

module _ (caps : ℕ → ℕ) (events more : List Event) where
  -- what happens before stays
  pub happens_before_grow : (i j : ℕ) → HappensBefore caps events i j → HappensBefore caps (events ++ more) i j
  happens_before_grow i j (a, b, ata, atb, w) = (a, b, append_at_old events more i a ata, append_at_old events more j b atb, reaches_grow caps events more w)

  -- nothing comes to happen before an event of the list
  pub happens_before_old : (i j : ℕ) → j < length events → HappensBefore caps (events ++ more) i j → HappensBefore caps events i j
  happens_before_old i j less h = go h
    where
      under : i < j
      under = happens_before_up caps (events ++ more) i j h

      go : HappensBefore caps (events ++ more) i j → HappensBefore caps events i j
      go (a, b, ata, atb, w) = (
        a,
        b,
        sym (slice_get-append events more i (omega (arith, under))) ∙ ata,
        sym (slice_get-append events more j less) ∙ atb,
        reaches_old caps events more less w,
      )

  access_grow : (x i : ℕ) → IsAccessOf events x i → IsAccessOf (events ++ more) x i
  access_grow x i (e, at, is) = (e, append_at_old events more i e at, is)

  access_old : (x i : ℕ) → i < length events → IsAccessOf (events ++ more) x i → IsAccessOf events x i
  access_old x i less (e, at, is) = (e, sym (slice_get-append events more i less) ∙ at, is)

  write_grow : (x i : ℕ) → IsWriteOf events x i → IsWriteOf (events ++ more) x i
  write_grow x i (e, at, is) = (e, append_at_old events more i e at, is)

  write_old : (x i : ℕ) → i < length events → IsWriteOf (events ++ more) x i → IsWriteOf events x i
  write_old x i less (e, at, is) = (e, sym (slice_get-append events more i less) ∙ at, is)

  -- an access stands in the list
  pub access_within : (x i : ℕ) → IsAccessOf events x i → i < length events
  access_within x i (e, at, is) = slice_get_within events i e at

  -- a conflict stays
  pub conflict_grow : (x i j : ℕ) → Conflict events x i j → Conflict (events ++ more) x i j
  conflict_grow x i j (differ, a, b, w) =
      (differ, access_grow x i a, access_grow x j b, elim w [ inl a ↦ inl (write_grow x i a) | inr b ↦ inr (write_grow x j b) ])

  -- no conflict comes between events of the list
  pub conflict_old : (x i j : ℕ) → i < length events → j < length events → Conflict (events ++ more) x i j → Conflict events x i j
  conflict_old x i j less under (differ, a, b, w) = (
    differ,
    access_old x i less a,
    access_old x j under b,
    elim w [ inl a ↦ inl (write_old x i less a) | inr b ↦ inr (write_old x j under b) ],
  )

  -- a race stays
  pub race_grow : (x i j : ℕ) → IsRace caps events x i j → IsRace caps (events ++ more) x i j
  race_grow x i j r = record {
    conflict = conflict_grow x i j r.conflict;
    not_before = λ h. r.not_before (happens_before_old i j (access_within x j r.conflict.2) h);
    not_after = λ h. r.not_after (happens_before_old j i (access_within x i r.conflict.1) h);
  }

  -- no race comes between events of the list
  pub race_old : (x i j : ℕ) → i < length events → j < length events → IsRace caps (events ++ more) x i j → IsRace caps events x i j
  race_old x i j less under r = record {
    conflict = conflict_old x i j less under r.conflict;
    not_before = λ h. r.not_before (happens_before_grow i j h);
    not_after = λ h. r.not_after (happens_before_grow j i h);
  }

  -- the reported race of a variable stays the reported one
  pub reported_grow : (x i j : ℕ) → IsReportedRace caps events x i j → IsReportedRace caps (events ++ more) x i j
  reported_grow x i j r = record {
    race = race_grow x i j r.race;
    in_order = r.in_order;
    least = λ k m less other. elim (cases_lt m (length events)) [
      | inl old ↦ r.least k m less (race_old x k m (omega arith) old other)
      | inr past ↦ omega (arith, within)
    ];
    greatest = λ k less other. r.greatest k less (race_old x k j (omega (arith, within)) within other);
  }
    where
      within : j < length events
      within = access_within x j r.race.conflict.2
