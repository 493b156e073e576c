-- Going back by edges, one after the other.
use Rattle.std.proofs.Common.{◌≡◌, ℕ, ◌<◌, List, [], ◌∷◌, ◌++◌, All, Some, slice_get, sym, subst, append-nil}
use Rattle.std.proofs.lemmas.{List.append_assoc, Option.{slice_get_within, get_or_from_slice_get}}
use Rattle.race_records.specs.declared.event.Event.{Event}
use Rattle.race_edges.specs.{declared.edge_list.Edge.Edge, Edges.IsEdge}
use Rattle.race_draw.specs.Layout.{IsWay}

-- what is read of a list of edges is one
pub edge_is : (caps : ℕ → ℕ) (events : List Event) (edges : List Edge) → All (IsEdge caps events) edges → (e : Edge) → (k : ℕ) × (slice_get edges k ≡ Some e)
    → IsEdge caps events e
edge_is caps events edges all e (k, at) =
    subst (IsEdge caps events) (get_or_from_slice_get edges k e e at) (all k e (slice_get_within edges k e at))

module _ (caps : ℕ → ℕ) (events : List Event) (p g : ℕ) (way : List Edge) (before who j h : ℕ)
    (leads : (rest : List Edge) → IsWay caps events p g rest before who → IsWay caps events p g (way ++ rest) j h) where
  -- one edge more
  pub longer : (e : Edge) → IsEdge caps events e → e.to_who ≡ who → e.to < before
      → (rest : List Edge) → IsWay caps events p g rest e.from e.from_who → IsWay caps events p g ((way ++ e ∷ []) ++ rest) j h
  longer e edge enters earlier rest more = subst (λ (l : List Edge). IsWay caps events p g l j h) (sym (append_assoc way (e ∷ []) rest)) (leads (e ∷ rest) (edge, enters, earlier, more))

  -- it ends where it began
  pub ended : p ≡ before → g ≡ who → IsWay caps events p g way j h
  ended same goroutine = subst (λ (l : List Edge). IsWay caps events p g l j h) (append-nil way) (leads [] (same, goroutine))
