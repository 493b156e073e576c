-- The list of edges, one edge on.
use Rattle.std.proofs.Common.{◌≡◌, ◌⊎◌, ◌↔◌, ℕ, ◌+◌, ◌<◌, ◌≤◌, Bool, true, false, List, [], ◌∷◌, ◌++◌, length}
use Rattle.std.proofs.Common.{length-append, take}
use Rattle.std.proofs.Common.{Some, None, slice_get, refl, sym, ap, ◌∙◌, subst, inl, inr, arith, IsTrue}
use Rattle.std.proofs.lemmas.{Option.{slice_get_within}, Bool.cases_eq}
use Rattle.race_records.specs.declared.event.Event.{Event}
use Rattle.race_model.specs.{Events.{At, partner}, Order.{SynchronizedInside, IsSource}, Synchronized.joins}
use Rattle.race_model.proofs.Indexes.{at_same, slice_get-take, slice_get-push, push_at, append_at_old, take_within}
use Rattle.race_model.proofs.{Indexes.take_at_old, Ranks.synchronized_up, SynchronizedTests.{joins_is, source_is}}
use Rattle.race_edges.specs.{declared.edge_list.Edge.Edge, Synchronized.source_at, Edges.{IsEdge, ComesBefore, AreEdges}}
use Rattle.race_edges.specs.EdgesSoFar.{AreEdgesWhere, LeadsBefore, AreEdgesBefore, edge_inside, with_edge}
use Rattle.race_edges.proofs.SynchronizedLemmas.{source_at_is, inside_pair}

-- edges with the same numbers are the same
same_edge : (d e : Edge) → d.from ≡ e.from → d.to ≡ e.to → d.from_who ≡ e.from_who → d.to_who ≡ e.to_who → d ≡ e
same_edge d e from to from_who to_who = λ i. record { from = from i; from_who = from_who i; to = to i; to_who = to_who i }

-- what was added is the edge by the test
pub as_told : (e : Bool) (b : Bool) (d edge : Edge) (edges new : List Edge) → new ≡ with_edge b d edges → b ≡ e → d ≡ edge → new ≡ with_edge e edge edges
as_told e b d edge edges new is test same = is ∙ (λ i. with_edge (test i) (same i) edges)

module _ (caps : ℕ → ℕ) (events : List Event) where
  -- an edge never leads to an earlier event
  edge_up : (d : Edge) → IsEdge caps events d → d.from ≤ d.to
  edge_up d is = synchronized_up caps events d.from d.from_who d.to d.to_who is

  -- of which edges the list tells may be said in another way
  pub same_where : (P Q : Edge → Type 0) (edges : List Edge) → ((d : Edge) → IsEdge caps events d → P d → Q d) → ((d : Edge) → IsEdge caps events d → Q d → P d)
      → AreEdgesWhere P caps events edges → AreEdgesWhere Q caps events edges
  same_where P Q edges there back are = record {
    each = λ k d at. let is = are.each k d at in (is.0, there d is.0 is.1);
    rising = are.rising;
    every = λ d is holds. are.every d is (back d is holds);
  }

  module _ (P : Edge → Type 0) (edges : List Edge) (e : Edge) (are : AreEdgesWhere P caps events edges) where
    -- the list with an edge behind it that comes after all
    one_more : IsEdge caps events e → ((d : Edge) → P d → ComesBefore d e) → AreEdgesWhere (λ d. P d ⊎ (d ≡ e)) caps events (edges ++ e ∷ [])
    one_more edge last = record { each = each; rising = rising; every = every }
      where
        each : (k : ℕ) (d : Edge) → slice_get (edges ++ e ∷ []) k ≡ Some d → IsEdge caps events d × (P d ⊎ (d ≡ e))
        each k d at = elim (push_at edges e k d at) [
          | inl old ↦ let is = are.each k d old in (is.0, inl is.1)
          | inr new ↦ (subst (IsEdge caps events) new.1 edge, inr (sym new.1))
        ]

        rising : (k m : ℕ) (c d : Edge) → k < m → slice_get (edges ++ e ∷ []) k ≡ Some c → slice_get (edges ++ e ∷ []) m ≡ Some d → ComesBefore c d
        rising k m c d less atc atd = elim (push_at edges e k c atc) [
          | inl old ↦ elim (push_at edges e m d atd) [
            | inl oldd ↦ are.rising k m c d less old oldd
            | inr new ↦ subst (ComesBefore c) new.1 (last c (are.each k c old).1)
          ]
          | inr new ↦ let within = slice_get_within (edges ++ e ∷ []) m d atd in absurd (omega (arith, within, new.0, less, length-append edges (e ∷ [])))
        ]

        every : (d : Edge) → IsEdge caps events d → P d ⊎ (d ≡ e) → (k : ℕ) × (slice_get (edges ++ e ∷ []) k ≡ Some d)
        every d is (inl holds) = let place = are.every d is holds in (place.0, append_at_old edges (e ∷ []) place.0 d place.1)
        every d is (inr same) = (length edges, slice_get-push edges e ∙ ap Some (sym same))

    -- what is no edge is none of the list
    none_more : (IsEdge caps events e → ⊥) → AreEdgesWhere (λ d. P d ⊎ (d ≡ e)) caps events edges
    none_more never = record {
      each = λ k d at. let is = are.each k d at in (is.0, inl is.1);
      rising = are.rising;
      every = λ d is holds. elim holds [ inl old ↦ are.every d is old | inr same ↦ absurd (never (subst (IsEdge caps events) same is)) ];
    }

    -- the list with an edge behind it, where it is one
    pub added : (b : Bool) → IsTrue b ↔ IsEdge caps events e → ((d : Edge) → P d → ComesBefore d e)
        → AreEdgesWhere (λ d. P d ⊎ (d ≡ e)) caps events (with_edge b e edges)
    added true is last = one_more (is.0 refl) last
    added false is last = none_more (λ edge. let never : false ≡ true = is.1 edge in cc)

  -- a list of all edges before the end is one of all edges
  pub are_all : (n : ℕ) (edges : List Edge) → length events ≤ n → AreEdgesBefore n n caps events edges → AreEdges caps events edges
  are_all n edges whole are = record {
    each = λ k d at. (are.each k d at).0;
    rising = are.rising;
    every = λ d is. are.every d is (inl (within d is));
  }
    where
      within : (d : Edge) → IsEdge caps events d → d.from < n
      within d (e, at, by) =
          let below : d.to < length events = slice_get_within events d.to e at in
          let up = edge_up d (e, at, by) in
          omega (arith, below, up, whole)

  -- before the first event there is none
  pub none_yet : AreEdgesBefore 0 0 caps events []
  none_yet = record {
    each = λ k d at. cc;
    rising = λ k m c d less atc atd. cc;
    every = λ d is holds. elim holds [ inl less ↦ absurd (omega (arith, less)) | inr same ↦ let less = same.1 in absurd (omega (arith, less)) ];
  }

  -- behind the last event an event's edges are all there
  pub event_done : (i n : ℕ) (edges : List Edge) → length events ≤ n → AreEdgesBefore i n caps events edges → AreEdgesBefore (i + 1) (i + 1) caps events edges
  event_done i n edges whole are = same_where (LeadsBefore i n) (LeadsBefore (i + 1) (i + 1)) edges (λ d is leads. grind arith) back are
    where
      back : (d : Edge) → IsEdge caps events d → LeadsBefore (i + 1) (i + 1) d → LeadsBefore i n d
      back d is leads =
          let below = slice_get_within events d.to is.0 is.1 in
          let up = edge_up d is in
          grind arith

  -- an edge between two events leads from the one's goroutine to the other's
  module _ (i j : ℕ) (s e : Event) (less : i < j) (ats : At events i s) (at : At events j e) where
    abbrev edge_between : Edge
    edge_between = record { from = i; from_who = s.who; to = j; to_who = e.who }

    source_from : (g h : ℕ) → ((x : Event) × At events j x
        × (((i ≡ j) × SynchronizedInside x.who x.op g h)
        ⊎ ((y : Event) × At (take j events) i y × IsSource caps (take j events) i y.op x.op × (y.who ≡ g) × (x.who ≡ h))))
        → IsSource caps (take j events) i s.op e.op × (s.who ≡ g) × (e.who ≡ h)
    source_from g h (x, atx, inl (same, inside)) = absurd (omega (arith, same, less))
    source_from g h (x, atx, inr (y, aty, source, from, to)) =
        let to_e = at_same events j x e atx at in
        let from_s = at_same events i y s (take_at_old j events i y aty) ats in (
          subst (λ (y : Event). IsSource caps (take j events) i y.op e.op) from_s
              (subst (λ (x : Event). IsSource caps (take j events) i y.op x.op) to_e source),
          ap (λ (y : Event). y.who) (sym from_s) ∙ from,
          ap (λ (x : Event). x.who) (sym to_e) ∙ to,
        )

    between_is : IsTrue (source_at caps events i j) ↔ IsEdge caps events edge_between
    between_is = (
      (λ is. (
        e,
        at,
        inr (
          s,
          slice_get-take j events i less ∙ ats,
          (source_is caps (take j events) i s.op e.op).0 (sym (source_at_is caps events i j s e ats at) ∙ is),
          refl,
          refl,
        ),
      )),
      (λ edge. source_at_is caps events i j s e ats at ∙ (source_is caps (take j events) i s.op e.op).1 (source_from s.who e.who edge).0),
    )

    -- the list with this edge behind it, where it is one
    pub later_added : (edges : List Edge) → AreEdgesBefore i j caps events edges
        → AreEdgesBefore i (j + 1) caps events (with_edge (source_at caps events i j) edge_between edges)
    later_added edges are = same_where (λ d. LeadsBefore i j d ⊎ (d ≡ edge_between))
        (LeadsBefore i (j + 1)) (with_edge (source_at caps events i j) edge_between edges) (λ d is leads. grind arith) back
        (added (LeadsBefore i j) edges edge_between are (source_at caps events i j) between_is (λ d leads. grind arith))
      where
        back : (d : Edge) → IsEdge caps events d → LeadsBefore i (j + 1) d → LeadsBefore i j d ⊎ (d ≡ edge_between)
        back d is (inl below) = inl (inl below)
        back d is (inr (same, below)) = elim (cases_eq d.to j) [
          | inl here ↦
              let moved : IsEdge caps events (record { from = i; from_who = d.from_who; to = j; to_who = d.to_who }) =
              subst (IsEdge caps events) (same_edge d _ same here refl refl) is in
              let source = source_from d.from_who d.to_who moved in
              inr (same_edge d edge_between same here (sym source.1) (sym source.2))
          | inr other ↦ inl (inr (same, omega (arith, below, other)))
        ]

  module _ (i : ℕ) (e : Event) (at : At events i e) where
    inside_from : (g h : ℕ) → IsEdge caps events (edge_inside i g h) → SynchronizedInside e.who e.op g h
    inside_from g h (x, atx, inl (same, inside)) = subst (λ (x : Event). SynchronizedInside x.who x.op g h) (at_same events i x e atx at) inside
    inside_from g h (x, atx, inr (y, aty, source, from, to)) = let less : i < i = take_within i events i y aty in absurd (omega (arith, less))

    inside_is : (g h : ℕ) → IsTrue (joins e.who e.op g h) ↔ IsEdge caps events (edge_inside i g h)
    inside_is g h = (
      (λ is. (e, at, inl (refl, (joins_is e.who e.op g h).0 is))),
      (λ edge. (joins_is e.who e.op g h).1 (inside_from g h edge)),
    )

    -- an edge inside the event, by its goroutines
    pair_of : (d : Edge) → IsEdge caps events d → d.from ≡ i → d.to ≡ i
        → ((e.who ≡ d.from_who) × (partner e.op ≡ Some d.to_who)) ⊎ ((partner e.op ≡ Some d.from_who) × (e.who ≡ d.to_who))
    pair_of d is from to = inside_pair e.who e.op d.from_who d.to_who
        (inside_from d.from_who d.to_who (subst (IsEdge caps events) (same_edge d (edge_inside i d.from_who d.to_who) from to refl refl) is))

    -- an event with one participant has none inside
    pub none_inside : partner e.op ≡ None → (edges : List Edge) → AreEdgesBefore i i caps events edges → AreEdgesBefore i (i + 1) caps events edges
    none_inside alone edges are = same_where (LeadsBefore i i) (LeadsBefore i (i + 1)) edges (λ d is leads. grind arith) back are
      where
        back : (d : Edge) → IsEdge caps events d → LeadsBefore i (i + 1) d → LeadsBefore i i d
        back d is leads = let pair = pair_of d is in grind arith

    -- one with two has those between them, the lesser goroutine's first
    module _ (p : ℕ) (second : partner e.op ≡ Some p) (low high : ℕ) (pair : ((low ≡ e.who) × (high ≡ p)) ⊎ ((low ≡ p) × (high ≡ e.who)))
        (edges : List Edge) (are : AreEdgesBefore i i caps events edges) where
      -- the first
      abbrev First : Edge → Type 0
      First d = LeadsBefore i i d ⊎ (d ≡ edge_inside i low high)

      after_first : AreEdgesWhere First caps events (with_edge (joins e.who e.op low high) (edge_inside i low high) edges)
      after_first = added (LeadsBefore i i) edges (edge_inside i low high) are (joins e.who e.op low high) (inside_is low high) (λ d leads. grind arith)

      -- an edge inside is one of the two
      one_of : (d : Edge) → IsEdge caps events d → LeadsBefore i (i + 1) d → First d ⊎ (d ≡ edge_inside i high low)
      one_of d is leads = let pairs = pair_of d is in grind (arith, same_edge)

      pub both_added : low < high
          → AreEdgesBefore i (i + 1) caps events
          (with_edge (joins e.who e.op high low) (edge_inside i high low) (with_edge (joins e.who e.op low high) (edge_inside i low high) edges))
      both_added less =
          same_where (λ d. First d ⊎ (d ≡ edge_inside i high low)) (LeadsBefore i (i + 1))
          (with_edge (joins e.who e.op high low) (edge_inside i high low) (with_edge (joins e.who e.op low high) (edge_inside i low high) edges))
          (λ d is leads. grind arith) one_of
          (added First (with_edge (joins e.who e.op low high) (edge_inside i low high) edges)
          (edge_inside i high low) after_first (joins e.who e.op high low) (inside_is high low) (λ d first. grind arith))

      pub one_added : low ≤ high → high ≤ low → AreEdgesBefore i (i + 1) caps events (with_edge (joins e.who e.op low high) (edge_inside i low high) edges)
      one_added up down = same_where First (LeadsBefore i (i + 1))
          (with_edge (joins e.who e.op low high) (edge_inside i low high) edges) (λ d is leads. grind arith)
          (λ d is leads. let one = one_of d is leads in grind arith) after_first
