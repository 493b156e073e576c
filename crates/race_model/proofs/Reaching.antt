-- How a way from a begin goes: it goes on, it comes into a begin from an end of the same goroutine, and into an end from a begin.
use Rattle.std.proofs.Common.{◌≡◌, ℕ, ◌<◌, ◌==◌, ◌||◌, true, List, refl, sym, subst, inl, inr, eq-eqb, IsTrue}
use Rattle.std.proofs.lemmas.Bool.{or_left, or_right}
use Rattle.race_records.specs.declared.event.{Event.Event, Op.{Op, TheVariants.{Go, Meet}}}
use Rattle.race_model.specs.{Events.{partner, gives, takes_part, TakesPart}, Order.{Point, Begin, End}}
use Rattle.race_model.specs.{Order.{SynchronizedInside, Step, Reaches, one_step, then_step}, Known.SeenAt}

-- reaching goes on behind reaching
pub reaches_on : {caps : ℕ → ℕ} {events : List Event} {p q r : Point} → Reaches caps events p q → Reaches caps events q r → Reaches caps events p r
reaches_on w (one_step s) = then_step w s
reaches_on w (then_step v s) = then_step (reaches_on w v) s

-- an event's own goroutine takes part
pub who_takes_part : (e : Event) → IsTrue (takes_part e.who e)
who_takes_part e = or_left (e.who == e.who) (gives (partner e.op) e.who) (eq-eqb e.who e.who refl)

-- the source of an edge inside an event takes part in it
pub inside_from : (e : Event) (g h : ℕ) → SynchronizedInside e.who e.op g h → IsTrue (takes_part g e)
inside_from e g h s = go e.op s
  where
    go : (o : Op) → SynchronizedInside e.who o g h → ((e.who == g) || gives (partner o) g) ≡ true
    go (Go k) (who, new) = or_left (e.who == g) (k == g) (eq-eqb e.who g who)
    go (Meet r c v) (inl (who, other)) = or_left (e.who == g) (r == g) (eq-eqb e.who g who)
    go (Meet r c v) (inr (other, who)) = or_right (e.who == g) (r == g) (eq-eqb r g other)
    go _ s = absurd s

-- so does its target
pub inside_to : (e : Event) (g h : ℕ) → SynchronizedInside e.who e.op g h → IsTrue (takes_part h e)
inside_to e g h s = go e.op s
  where
    go : (o : Op) → SynchronizedInside e.who o g h → ((e.who == h) || gives (partner o) h) ≡ true
    go (Go k) (who, new) = or_right (e.who == h) (k == h) (eq-eqb k h new)
    go (Meet r c v) (inl (who, other)) = or_right (e.who == h) (r == h) (eq-eqb r h other)
    go (Meet r c v) (inr (other, who)) = or_left (e.who == h) (r == h) (eq-eqb e.who h who)
    go _ s = absurd s

-- h's begin in event i reaches an end of f before event j, in which f takes part
abbrev pub ReachesEarlier : (ℕ → ℕ) → List Event → ℕ → ℕ → ℕ → ℕ → Type 0
ReachesEarlier caps events i h j f = (m : ℕ) × (m < j) × TakesPart events m f × TakesPart events j f × Reaches caps events (Begin i h) (End m f)

-- a way to a begin comes from an earlier end of the same goroutine
pub into_begin : {caps : ℕ → ℕ} {events : List Event} (i h j f : ℕ) → Reaches caps events (Begin i h) (Begin j f) → ReachesEarlier caps events i h j f
into_begin i h j f (one_step (inl s)) = absurd s
into_begin i h j f (one_step (inr s)) = absurd s
into_begin {caps} {events} i h j f (then_step {q} w s) = go q w s
  where
    go : (q : Point) → Reaches caps events (Begin i h) q → Step caps events q (Begin j f) → ReachesEarlier caps events i h j f
    go (Begin m g) w (inl s) = absurd s
    go (Begin m g) w (inr s) = absurd s
    go (End m g) w (inr s) = absurd s
    go (End m g) w (inl (less, who, from, to)) =
        (m, less, subst (TakesPart events m) who from, to, subst (λ g. Reaches caps events (Begin i h) (End m g)) who w)

-- a way to an end comes from a begin, by one step
pub into_end : {caps : ℕ → ℕ} {events : List Event} (i h j g : ℕ) → Reaches caps events (Begin i h) (End j g)
    → (k f : ℕ) × SeenAt caps events i h k f × Step caps events (Begin k f) (End j g)
into_end i h j g (one_step s) = (i, h, inl (refl, refl), s)
into_end {caps} {events} i h j g (then_step {q} w s) = go q w s
  where
    go : (q : Point) → Reaches caps events (Begin i h) q → Step caps events q (End j g)
        → (k f : ℕ) × SeenAt caps events i h k f × Step caps events (Begin k f) (End j g)
    go (Begin k f) w s = (k, f, inr w, s)
    go (End k f) w (inl s) = absurd s
    go (End k f) w (inr s) = absurd s

-- and such a step goes on
pub out_of_seen : {caps : ℕ → ℕ} {events : List Event} (i h k f j g : ℕ) → SeenAt caps events i h k f → Step caps events (Begin k f) (End j g)
    → Reaches caps events (Begin i h) (End j g)
out_of_seen {caps} {events} i h k f j g (inl (same, who)) s =
    one_step (subst (λ i. Step caps events (Begin i h) (End j g)) (sym same) (subst (λ h. Step caps events (Begin k h) (End j g)) (sym who) s))
out_of_seen i h k f j g (inr w) s = then_step w s
