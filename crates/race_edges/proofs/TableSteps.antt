-- A table tells what each goroutine has seen, one event on.
use Rattle.std.proofs.Common.{◌≡◌, ◌⊎◌, ◌↔◌, ℕ, ◌+◌, ◌<◌, ◌≤◌, Bool, true, false, List, [], ◌∷◌, ◌++◌, if◌then◌else◌}
use Rattle.std.proofs.Common.{length, replicate, IfSome, get_or, refl, sym, ap, ◌∙◌, subst, inl, inr, arith, IsTrue}
use Rattle.std.proofs.{Common.length-append, Math.Seq.get_or-append_seam}
use Rattle.std.proofs.lemmas.{List.{get_or-replicate, get_or_append_left, length-replicate}, Option.slice_get_within}
use Rattle.race_records.specs.declared.event.Event.{Event}
use Rattle.race_model.specs.{Events.{At, takes_part, partner}, Order.{Begin, SynchronizedInside, IsSource, Reaches}}
use Rattle.race_model.{specs.Known.{SeenBy, SeenAt}, proofs.SeenSteps.{Brings, seen_at_new, seen_at_from, seen_at_grow}}
use Rattle.race_model.proofs.{SeenSteps.{seen_at_old, seen_grow, seen_brings, seen_step}, Indexes.{at_same, at_below}}
use Rattle.race_model.proofs.{Indexes.{slice_get-append, append_at_old, slice_get-push, push_at}, Ranks.reaches_up}
use Rattle.race_model.proofs.Reaching.{reaches_on, who_takes_part, inside_to}
use Rattle.race_edges.specs.{Synchronized.can_be_source, TableState.{TableState, row_of, sees, with_seen, inside, kept}}
use Rattle.race_edges.{specs.TableState.{table_after, HasRows}, proofs.IsTable.{HasSeen, HadSeen, IsTable}}
use Rattle.race_edges.proofs.{SynchronizedLemmas.{source_can_be, inside_pair}, RowLemmas.shape_with_seen}
use Rattle.race_edges.proofs.RowLemmas.{sees_with_seen, shape_inside, sees_inside, sees_taken}
use Rattle.race_edges.proofs.RowLemmas.{AreShaped, shape_on, shape_after, SeesTaken, HoldsSeen, HeldSeen}

-- only events of the list are seen
pub seen_within : (caps : ℕ → ℕ) (past : List Event) (i h g : ℕ) → SeenBy caps past i h g → i < length past
seen_within caps past i h g (j, (e, at, is), w) =
    let up : i + i < j + j + 1 = reaches_up w in
    let below : j < length past = slice_get_within past j e at in
    omega arith

-- what was seen at the begin of an event stands no later
seen_at_up : (caps : ℕ → ℕ) (past : List Event) (i h k f : ℕ) → SeenAt caps past i h k f → i ≤ k
seen_at_up caps past i h k f (inl (same, who)) = omega (arith, same)
seen_at_up caps past i h k f (inr w) = let up : i + i < k + k = reaches_up w in omega (arith, up)

-- what the table tells of an event of the list
pub table_seen : (caps : ℕ → ℕ) (table : TableState) (limit : ℕ) (past : List Event) → IsTable caps table limit past → (g i : ℕ) (e : Event)
    → g < length table.rows → At past i e
    → IsTrue (sees table.rows g i) ↔ SeenBy caps past i e.who g
table_seen caps table limit past is g i e less at =
    let within : i < limit = let below = slice_get_within past i e at in let room = is.room in omega (arith, below, room) in (
      (λ s. let seen = (is.seen g i less within).0 s in subst (λ (e : Event). SeenBy caps past i e.who g) (at_same past i seen.0 e seen.1 at) seen.2),
      (λ seen. (is.seen g i less within).1 (e, at, seen)),
    )

-- what had been seen at a begin that is seen is seen too
seen_at_on : (caps : ℕ → ℕ) (past : List Event) (i h k f m g : ℕ) → SeenAt caps past i h k f → SeenAt caps past k f m g → SeenAt caps past i h m g
seen_at_on caps past i h k f m g (inl (same, who)) second = subst (λ (p : ℕ × ℕ). SeenAt caps past p.0 p.1 m g) (λ j. (sym same j, sym who j)) second
seen_at_on caps past i h k f m g (inr w) (inl (same, who)) = inr (subst (λ (p : ℕ × ℕ). Reaches caps past (Begin i h) (Begin p.0 p.1)) (λ j. (same j, who j)) w)
seen_at_on caps past i h k f m g (inr w) (inr v) = inr (reaches_on w v)

seen_by_on : (caps : ℕ → ℕ) (past : List Event) (i h k f g : ℕ) → SeenAt caps past i h k f → SeenBy caps past k f g → SeenBy caps past i h g
seen_by_on caps past i h k f g (inl (same, who)) second = subst (λ (p : ℕ × ℕ). SeenBy caps past p.0 p.1 g) (λ j. (sym same j, sym who j)) second
seen_by_on caps past i h k f g (inr w) (j, part, v) = (j, part, reaches_on w v)

-- before the first event
pub table_none : (caps : ℕ → ℕ) (goroutines limit : ℕ) → IsTable caps (record { rows = replicate goroutines (replicate limit false); heard = [] }) limit []
table_none caps goroutines limit = record {
  seen = λ g i less within. (
    (λ s. let none : sees (replicate goroutines (replicate limit false)) g i ≡ false =
        ap (λ r. get_or r i false) (row g less) ∙ get_or-replicate limit i false false within in cc),
    (λ (e, at, seen). cc),
  );
  heard = λ k i s at source within. cc;
  wide = λ g less. ap length (row g less) ∙ length-replicate limit false;
  long = refl;
  room = omega arith;
}
  where
    row : (g : ℕ) → g < length (replicate goroutines (replicate limit false)) → row_of (replicate goroutines (replicate limit false)) g ≡ replicate limit false
    row g less = get_or-replicate goroutines g (replicate limit false) [] (omega (arith, less, length-replicate goroutines (replicate limit false)))

module _ (caps : ℕ → ℕ) (table : TableState) (limit : ℕ) (past : List Event)
    (is_table : IsTable caps table limit past) (e : Event) (room : length past < limit) (has : HasRows table.rows e)
    (is : ℕ → Bool) (sources : (k : ℕ) (s : Event) → At past k s → IsTrue (is k) ↔ IsSource caps past k s.op e.op) where
  -- g had seen the begin of event i before, or it is g's own begin in the next event
  abbrev Knows : ℕ → ℕ → Type 0
  Knows g i = (s : Event) × At (past ++ e ∷ []) i s × (((i ≡ length past) × (s.who ≡ g)) ⊎ SeenBy caps past i s.who g)

  -- the next event
  at_last : (i : ℕ) (s : Event) → At (past ++ e ∷ []) i s → i ≡ length past → e ≡ s
  at_last i s at here = at_same (past ++ e ∷ []) (length past) e s (slice_get-push past e) (subst (λ i. At (past ++ e ∷ []) i s) here at)

  -- an event of the list
  at_old : (i : ℕ) (s : Event) → At (past ++ e ∷ []) i s → i < length past → At past i s
  at_old i s at below = sym (slice_get-append past (e ∷ []) i below) ∙ at

  -- the rows where the event's goroutine has seen its begin, and then what the edges inside it bring
  abbrev own : List (List Bool)
  own = with_seen table.rows e.who (length past)

  abbrev rows_inside : List (List Bool)
  rows_inside = inside own e.who e.op

  shape_own : AreShaped table.rows own
  shape_own = shape_with_seen table.rows e.who (length past)

  shape_in : AreShaped table.rows rows_inside
  shape_in = shape_on table.rows own rows_inside shape_own (shape_inside own e.who e.op)

  wide_own : (g : ℕ) → g < length own → length (row_of own g) ≡ limit
  wide_own g less = let below : g < length table.rows = omega (arith, less, shape_own.count) in shape_own.wide g below ∙ is_table.wide g below

  wide_inside : (g : ℕ) → g < length rows_inside → length (row_of rows_inside g) ≡ limit
  wide_inside g less = let below : g < length table.rows = omega (arith, less, shape_in.count) in shape_in.wide g below ∙ is_table.wide g below

  sees_own : (g i : ℕ) → g < length table.rows → i < limit → IsTrue (sees own g i) ↔ Knows g i
  sees_own g i less within =
      let bits = sees_with_seen table.rows e.who (length past) g i less (let wide = is_table.wide g less in omega (arith, within, wide)) in
      let seen = is_table.seen g i less within in
      let last = slice_get-push past e in (
        (λ s. elim (bits.0 s) [
          | inl old ↦ let had = seen.0 old in (had.0, append_at_old past (e ∷ []) i had.0 had.1, inr had.2)
          | inr own ↦ (e, cc, inl (sym own.1, own.0))
        ]),
        (λ (s, at, knows). elim knows [
          | inl (here, who) ↦ bits.1 (inr (ap (λ (s : Event). s.who) (at_last i s at here) ∙ who, sym here))
          | inr old ↦ bits.1 (inl (seen.1 (s, at_old i s at (seen_within caps past i s.who g old), old)))
        ]),
      )

  -- whose begin is synchronized before an end of the event has a row
  row_inside : (f g : ℕ) → SynchronizedInside e.who e.op f g → f < length table.rows
  row_inside f g edge = elim (inside_pair e.who e.op f g edge) [
    | inl pair ↦ subst (λ f. f < length table.rows) pair.0 has.0
    | inr pair ↦ subst (λ o. IfSome o (λ p. p < length table.rows)) pair.0 has.1
  ]

  -- it knew, or an edge inside the event brings it
  abbrev KnowsInside : ℕ → ℕ → Type 0
  KnowsInside g i = Knows g i ⊎ ((f : ℕ) × SynchronizedInside e.who e.op f g × Knows f i)

  sees_known : (g i : ℕ) → g < length table.rows → i < limit → IsTrue (sees rows_inside g i) ↔ KnowsInside g i
  sees_known g i less within =
      let partner_row = subst (λ m. IfSome (partner e.op) (λ p. p < m)) (sym shape_own.count) has.1 in
      let brought = sees_inside own e.who e.op limit wide_own partner_row g i (omega (arith, less, shape_own.count)) within in
      let mine = sees_own g i less within in
      let others = λ (f : ℕ) (edge : SynchronizedInside e.who e.op f g). sees_own f i (row_inside f g edge) within in
      grind (arith, others)

  -- what is kept of a source tells what its goroutine had seen
  heard_is : (k i : ℕ) (s : Event) → At past k s → IsTrue (is k) → i < limit → IsTrue (sees table.heard k i) ↔ HadSeen caps past i k s.who
  heard_is k i s at test within = is_table.heard k i s at (source_can_be caps past k s.op e.op ((sources k s at).0 test)) within

  -- who knows of event k knows what had been seen at its begin
  knows_on : (f k i : ℕ) (s : Event) → At past k s → HadSeen caps past i k s.who → Knows f k → Knows f i
  knows_on f k i s at had (t, att, inl (last, who)) = let below : k < length past = slice_get_within past k s at in absurd (omega (arith, below, last))
  knows_on f k i s at (d, atd, had) (t, att, inr seen) =
      let below : k < length past = slice_get_within past k s at in
      let same : t ≡ s = at_same past k t s (at_old k t att below) at in
      (d, append_at_old past (e ∷ []) i d atd, inr (seen_by_on caps past i d.who k s.who f had (subst (λ (t : Event). SeenBy caps past k t.who f) same seen)))

  holds_seen : (i : ℕ) → i < limit → HoldsSeen is table.heard rows_inside e.who (length past) i
  holds_seen i within k below test seen kept =
      let s = at_below past k below in
      let had = (heard_is k i s.0 s.1 test within).0 kept in
      (sees_known e.who i has.0 within).1 (elim ((sees_known e.who k has.0 (omega (arith, below, room))).0 seen) [
        | inl knows ↦ inl (knows_on e.who k i s.0 s.1 had knows)
        | inr (f, edge, knows) ↦ inr (f, edge, knows_on f k i s.0 s.1 had knows)
      ])

  held_seen : (i : ℕ) → i < limit → HeldSeen is table.heard (length past) i
  held_seen i within m k first second test_m test_k kept_m kept_k =
      let t = at_below past m first in
      let s = at_below past k second in
      let (c, atc, had) = (heard_is m k t.0 t.1 test_m (omega (arith, second, room))).0 kept_m in
      let (d, atd, before) = (heard_is k i s.0 s.1 test_k within).0 kept_k in
      (heard_is m i t.0 t.1 test_m within).1 (
        d,
        atd,
        seen_at_on caps past i d.who k s.0.who m t.0.who before
            (subst (λ (c : Event). SeenAt caps past k c.who m t.0.who) (at_same past k c s.0 atc s.1) had),
      )

  -- what g has seen behind the event: it knew, or an edge inside brings it, or a source does
  abbrev Sees : ℕ → ℕ → Type 0
  Sees g i =
      KnowsInside g i ⊎ ((e.who ≡ g) × ((k : ℕ) × (s : Event) × At past k s × IsSource caps past k s.op e.op × HadSeen caps past i k s.who))

  sees_after : (g i : ℕ) → g < length table.rows → i < limit → IsTrue (sees (table_after is table (length past) e.who e.op).rows g i) ↔ Sees g i
  sees_after g i less within = (there, back)
    where
      all : IsTrue (sees (table_after is table (length past) e.who e.op).rows g i) ↔ SeesTaken is table.heard rows_inside e.who (length past) g i
      all = sees_taken is table.heard e.who limit i within (length past) rows_inside wide_inside (omega (arith, has.0, shape_in.count))
          (omega (arith, room)) (holds_seen i within) (held_seen i within) g (omega (arith, less, shape_in.count))

      there : IsTrue (sees (table_after is table (length past) e.who e.op).rows g i) → Sees g i
      there s = elim (all.0 s) [
        | inl old ↦ inl ((sees_known g i less within).0 old)
        | inr (who, (k, below, test, seen)) ↦
            let s = at_below past k below in
            inr (who, (k, s.0, s.1, (sources k s.0 s.1).0 test, (heard_is k i s.0 s.1 test within).0 seen))
      ]

      back : Sees g i → IsTrue (sees (table_after is table (length past) e.who e.op).rows g i)
      back (inl old) = all.1 (inl ((sees_known g i less within).1 old))
      back (inr (who, (k, s, at, source, had))) =
          let test = (sources k s at).1 source in
          all.1 (inr (who, (k, slice_get_within past k s at, test, (heard_is k i s at test within).1 had)))

  -- and that is what the memory model says
  sees_is : (g i : ℕ) → Sees g i ↔ HasSeen caps (past ++ e ∷ []) i g
  sees_is g i = (there, back)
    where
      there : Sees g i → HasSeen caps (past ++ e ∷ []) i g
      there (inl (inl (s, at, inl (here, who)))) = (
        s,
        at,
        seen_brings caps past e i s.who g
            (subst (λ h. IsTrue (takes_part h e)) (ap (λ (s : Event). s.who) (at_last i s at here) ∙ who) (who_takes_part e)) (inl (here, who)),
      )
      there (inl (inl (s, at, inr seen))) = (s, at, seen_grow caps past e i s.who g seen)
      there (inl (inr (f, edge, (s, at, knows)))) = (s, at, seen_brings caps past e i s.who g (inside_to e f g edge) (inr (inl (f, edge, knows))))
      there (inr (who, (k, s, at, source, (d, atd, had)))) = (
        d,
        append_at_old past (e ∷ []) i d atd,
        seen_brings caps past e i d.who g (subst (λ h. IsTrue (takes_part h e)) who (who_takes_part e)) (inr (inr (k, s, at, source, who, had))),
      )

      brought : (s : Event) → At (past ++ e ∷ []) i s → Brings caps past e i s.who g → Sees g i
      brought s at (inl here) = inl (inl (s, at, inl here))
      brought s at (inr (inl (f, edge, knows))) = inl (inr (f, edge, (s, at, knows)))
      brought s at (inr (inr (k, t, att, source, who, had))) =
          let up : i ≤ k = seen_at_up caps past i s.who k t.who had in
          let below : k < length past = slice_get_within past k t att in
          inr (who, (k, t, att, source, (s, at_old i s at (omega (arith, up, below)), had)))

      back : HasSeen caps (past ++ e ∷ []) i g → Sees g i
      back (s, at, seen) = elim (seen_step caps past e i s.who g seen) [ inl before ↦ inl (inl (s, at, inr before)) | inr by ↦ brought s at by.1 ]

  -- what was seen at an earlier begin stays
  had_old : (i k f : ℕ) → k < length past → HadSeen caps past i k f ↔ HadSeen caps (past ++ e ∷ []) i k f
  had_old i k f below = (
    (λ (d, at, had). (d, append_at_old past (e ∷ []) i d at, seen_at_grow caps past e i d.who k f had)),
    (λ (d, at, had).
        let old = seen_at_old caps past e i d.who k f below had in
        let up : i ≤ k = seen_at_up caps past i d.who k f old in
        (d, at_old i d at (omega (arith, up, below)), old)),
  )

  -- and at the next one its goroutine knew it
  had_new : (i : ℕ) → Knows e.who i ↔ HadSeen caps (past ++ e ∷ []) i (length past) e.who
  had_new i = (
    (λ (s, at, knows). (s, at, seen_at_from caps past e i s.who e.who (who_takes_part e) knows)),
    (λ (s, at, had). (s, at, seen_at_new caps past e i s.who (length past) e.who refl had)),
  )

  pub table_step : IsTable caps (table_after is table (length past) e.who e.op) limit (past ++ e ∷ [])
  table_step = record { seen = seen; heard = heard; wide = wide; long = long; room = let more = length-append past (e ∷ []) in omega (arith, more, room) }
    where
      shape : AreShaped table.rows (table_after is table (length past) e.who e.op).rows
      shape = shape_after is table (length past) e.who e.op

      seen : (g i : ℕ) → g < length (table_after is table (length past) e.who e.op).rows → i < limit
          → IsTrue (sees (table_after is table (length past) e.who e.op).rows g i) ↔ HasSeen caps (past ++ e ∷ []) i g
      seen g i less within =
          let told = sees_after g i (omega (arith, less, shape.count)) within in
          let is = sees_is g i in
          ((λ s. is.0 (told.0 s)), (λ s. told.1 (is.1 s)))

      wide : (g : ℕ) → g < length (table_after is table (length past) e.who e.op).rows
          → length (row_of (table_after is table (length past) e.who e.op).rows g) ≡ limit
      wide g less = let old : g < length table.rows = omega (arith, less, shape.count) in shape.wide g old ∙ is_table.wide g old

      long : length (table.heard ++ kept own e.who e.op ∷ []) ≡ length (past ++ e ∷ [])
      long = length-append table.heard (kept own e.who e.op ∷ [])
          ∙ ap (λ m. m + 1) is_table.long ∙ sym (length-append past (e ∷ []))

      heard : (k i : ℕ) (s : Event) → At (past ++ e ∷ []) k s → IsTrue (can_be_source s.op) → i < limit
          → IsTrue (sees (table.heard ++ kept own e.who e.op ∷ []) k i) ↔ HadSeen caps (past ++ e ∷ []) i k s.who
      heard k i s at source within = elim (push_at past e k s at) [
        | inl old ↦
            let below : k < length past = slice_get_within past k s old in
            let same = get_or_append_left table.heard (kept own e.who e.op ∷ [])
            [] k (let long = is_table.long in omega (arith, below, long)) in
            let told = is_table.heard k i s old source within in
            let stays = had_old i k s.who below in (
              (λ t. stays.0 (told.0 (sym (ap (λ r. get_or r i false) same) ∙ t))),
              (λ had. ap (λ r. get_or r i false) same ∙ told.1 (stays.1 had)),
            )
        | inr (here, new) ↦
            let row = kept own e.who e.op in
            let last : row_of (table.heard ++ row ∷ []) k ≡ row =
            ap (row_of (table.heard ++ row ∷ [])) (here ∙ sym is_table.long) ∙ get_or-append_seam table.heard row [] [] in
            let test : can_be_source e.op ≡ true = subst (λ (s : Event). IsTrue (can_be_source s.op)) (sym new) source in
            let is_row : row ≡ row_of own e.who =
            ap (λ b. if b then row_of own e.who else []) test in
            let told = sees_own e.who i has.0 within in
            let had = had_new i in
            let moved : HadSeen caps (past ++ e ∷ []) i (length past) e.who ≡ HadSeen caps (past ++ e ∷ []) i k s.who =
            (λ j. HadSeen caps (past ++ e ∷ []) i (sym here j) (ap (λ (s : Event). s.who) new j)) in (
              (λ t. subst (λ A. A) moved (had.0 (told.0 (sym (ap (λ r. get_or r i false) (last ∙ is_row)) ∙ t)))),
              (λ h. ap (λ r. get_or r i false) (last ∙ is_row) ∙ told.1 (had.1 (subst (λ A. A) (sym moved) h))),
            )
      ]
