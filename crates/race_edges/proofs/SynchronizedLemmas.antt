-- Which operations can be sources, and between whom an edge inside an event leads.
use Rattle.std.proofs.Common.{◌≡◌, ◌⊎◌, ◌∙◌, ℕ, false, List, Some, refl, ap, inl, inr, arith, IsTrue, take, slice_get}
use Rattle.std.proofs.Common.{None}
use Rattle.race_records.specs.declared.event.{Event.Event, Op.{Op, TheVariants.{Go, Send, Recv, Meet}}}
use Rattle.race_records.specs.declared.event.Op.TheVariants.{Close, Lock, Unlock, RUnlock, TryLock}
use Rattle.race_records.specs.declared.event.Op.TheVariants.{OnceEnd}
use Rattle.race_model.specs.Events.{At, partner}
use Rattle.race_model.specs.{Order.{SynchronizedInside, IsSource}, Synchronized.is_source}
use Rattle.race_edges.specs.Synchronized.{can_be_source, source_at}

-- the test on two events of a list
pub source_at_is : (caps : ℕ → ℕ) (events : List Event) (i j : ℕ) (s e : Event) → At events i s → At events j e
    → source_at caps events i j ≡ is_source caps (take j events) i s.op e.op
source_at_is caps events i j s e ats at =
    ap (λ o. elim o [ Some s ↦ elim (slice_get events j) [ Some e ↦ is_source caps (take j events) i s.op e.op | None ↦ false ] | None ↦ false ]) ats
    ∙ ap (λ o. elim o [ Some e ↦ is_source caps (take j events) i s.op e.op | None ↦ false ]) at

-- what is a source can be one
pub source_can_be : (caps : ℕ → ℕ) (past : List Event) (i : ℕ) (s o : Op) → IsSource caps past i s o → IsTrue (can_be_source s)
source_can_be caps past i (Send c v) o is = refl
source_can_be caps past i (Recv c v) o is = refl
source_can_be caps past i (Close c) o is = refl
source_can_be caps past i (Unlock l) o is = refl
source_can_be caps past i (RUnlock l) o is = refl
source_can_be caps past i (OnceEnd p) o is = refl
source_can_be caps past i _ (Lock l) (inl is) = cc
source_can_be caps past i _ (TryLock l) (inl is) = cc
source_can_be caps past i _ o is = grind arith

-- an edge inside an event leads from its goroutine to the second participant, or the other way
pub inside_pair : (who : ℕ) (o : Op) (g h : ℕ) → SynchronizedInside who o g h → ((who ≡ g) × (partner o ≡ Some h)) ⊎ ((partner o ≡ Some g) × (who ≡ h))
inside_pair who (Go k) g h (from, to) = inl (from, ap Some to)
inside_pair who (Meet r c v) g h (inl (from, to)) = inl (from, ap Some to)
inside_pair who (Meet r c v) g h (inr (from, to)) = inr (ap Some from, to)
inside_pair who _ g h never = absurd never
