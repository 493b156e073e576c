-- What another run shows, by tests that compute: on lists that are written out, refl answers.
use Rattle.std.proofs.Common.{◌≡◌, ◌⊎◌, ℕ, zero, suc, ◌+◌, ◌||◌, ◌&&◌, ◌==◌, Bool, true, false, Option}
use Rattle.std.proofs.Common.{Some, None, List, [], ◌∷◌, length, slice_get, Decides, IsTrue, refl, sym, ap, ◌∙◌}
use Rattle.std.proofs.Common.{subst, inl, inr, arith, true≢false, eq-eqb, eqb-true}
use Rattle.std.proofs.lemmas.Bool.{or_left, or_right, or_cases, and_parts, Decides.Decides-eqb}
use Rattle.race_records.specs.declared.event.{Event.Event, Op.{Op, TheVariants.Read}}
use Rattle.race_records.specs.TraceEquality.{same_op, same_op-Decides}
use Rattle.race_model.specs.{Events.{takes_part, partner, gives}}
use Rattle.race_model.specs.Predict.{execution_of, finding, told, DoesTheSame, AsksTheSame, CouldHaveRun}
use Rattle.race_model.specs.Predict.{IsPrediction}
use Rattle.race_model.proofs.{Indexes.at_same, ExampleLemmas.{all_kept, legal_from}}
use Rattle.race_model.proofs.PredictLemmas.{in_part, race_at_end}

abbrev same_number : Option ℕ → Option ℕ → Bool
same_number None None = true
same_number (Some m) (Some n) = m == n
same_number _ _ = false

same_number-Decides : (o p : Option ℕ) → Decides (same_number o p) (o ≡ p)
same_number-Decides None None = (λ _. refl, λ _. refl)
same_number-Decides (Some m) (Some n) = (λ e. ap Some ((Decides-eqb m n).0 e), λ e. (Decides-eqb m n).1 cc)
same_number-Decides _ _ = (λ e. absurd (true≢false (sym e)), λ e. cc)

-- the events are the same
abbrev same_event : Event → Event → Bool
same_event a b = (a.who == b.who) && (same_op a.op b.op && ((a.place == b.place) && same_number a.place2 b.place2))

same_from : (a b : Event) → IsTrue (same_event a b) → a ≡ b
same_from a b is =
    let one = and_parts _ _ is in
    let two = and_parts _ _ one.1 in
    let three = and_parts _ _ two.1 in
    let who : a.who ≡ b.who = eqb-true a.who b.who one.0 in
    let op : a.op ≡ b.op = (same_op-Decides a.op b.op).0 two.0 in
    let place : a.place ≡ b.place = eqb-true a.place b.place three.0 in
    let place2 : a.place2 ≡ b.place2 = (same_number-Decides a.place2 b.place2).0 three.1 in
    (λ i. record { who = who i; op = op i; place = place i; place2 = place2 i })

and_both : (b c : Bool) → IsTrue b → IsTrue c → IsTrue (b && c)
and_both true true p q = refl
and_both _ _ p q = cc

same_to : (a b : Event) → a ≡ b → IsTrue (same_event a b)
same_to a b same =
    and_both _ _ (eq-eqb a.who b.who (ap (λ (e : Event). e.who) same)) (and_both _ _ ((same_op-Decides a.op b.op).1 (ap (λ (e : Event). e.op) same))
    (and_both _ _ (eq-eqb a.place b.place (ap (λ (e : Event). e.place) same))
    ((same_number-Decides a.place2 b.place2).1 (ap (λ (e : Event). e.place2) same))))

-- the value that a read finds
abbrev found_by : Op → ℕ
found_by (Read x v) = v
found_by o = 0

finding_again : (v : ℕ) (o : Op) → finding (found_by (finding v o)) o ≡ finding v o
finding_again v (Read x u) = refl
finding_again v _ = refl

abbrev with_op : Event → Op → Event
with_op e o = record { who = e.who; op = o; place = e.place; place2 = e.place2 }

abbrev is_last : List Event → Bool
is_last [] = true
is_last (a ∷ part) = false

-- a, before part, is b, or is the last and b but for what a read finds
abbrev does_the_same : List Event → Event → Event → Bool
does_the_same part a b = same_event a b || (is_last part && same_event a (told (found_by a.op) b))

-- the part is a front, as AsksTheSame has it
abbrev pub asks_the_same : List Event → List Event → Bool
asks_the_same [] recorded = true
asks_the_same (a ∷ part) [] = false
asks_the_same (a ∷ part) (b ∷ recorded) = does_the_same part a b && asks_the_same part recorded

later : (part : List Event) (k : ℕ) (a b c : Event) → DoesTheSame part k a b → DoesTheSame (c ∷ part) (suc k) a b
later part k a b c (inl same) = inl same
later part k a b c (inr (last, (v, read))) = inr (omega (arith, last), (v, read))

asks_from : (part recorded : List Event) → IsTrue (asks_the_same part recorded) → AsksTheSame part recorded
asks_from [] recorded is k a at = cc
asks_from (c ∷ part) [] is k a at = cc
asks_from (c ∷ part) (b ∷ recorded) is zero a at = (b, refl, head (or_cases _ _ (and_parts _ _ is).0))
  where
    here : c ≡ a
    here = cc

    only : (part : List Event) → IsTrue (is_last part) → length (c ∷ part) ≡ 0 + 1
    only [] last = refl
    only (d ∷ part) last = cc

    head : IsTrue (same_event c b) ⊎ IsTrue (is_last part && same_event c (told (found_by c.op) b)) → DoesTheSame (c ∷ part) 0 a b
    head (inl same) = inl (sym here ∙ same_from c b same)
    head (inr read) = inr (only part (and_parts _ _ read).0, (found_by c.op, sym here ∙ same_from c (told (found_by c.op) b) (and_parts _ _ read).1))
asks_from (c ∷ part) (b ∷ recorded) is (suc k) a at =
    let (d, there, does) = asks_from part recorded (and_parts _ _ is).1 k a at in (d, there, later part k a d c does)

asks_to : (part recorded : List Event) → AsksTheSame part recorded → IsTrue (asks_the_same part recorded)
asks_to [] recorded h = refl
asks_to (c ∷ part) [] h = let (b, at, does) = h 0 c refl in cc
asks_to (c ∷ part) (b ∷ recorded) h = and_both _ _ (head (h 0 c refl)) (asks_to part recorded tail)
  where
    head : ((d : Event) × (slice_get (b ∷ recorded) 0 ≡ Some d) × DoesTheSame (c ∷ part) 0 c d) → IsTrue (does_the_same part c b)
    head (d, at, inl same) = or_left _ _ (same_to c b (same ∙ sym (at_same (b ∷ recorded) 0 b d refl at)))
    head (d, at, inr (last, (v, read))) = or_right _ _ (and_both _ _ (ends part last) (same_to c (told (found_by c.op) b) (is ∙ sym again)))
      where
        is : c ≡ told v b
        is = read ∙ ap (told v) (sym (at_same (b ∷ recorded) 0 b d refl at))

        again : told (found_by c.op) b ≡ told v b
        again =
            ap (λ (a : Event). told (found_by a.op) b) is
            ∙ ap (λ (o : Op). with_op b o) (finding_again v b.op)

        ends : (part : List Event) → length (c ∷ part) ≡ 0 + 1 → IsTrue (is_last part)
        ends [] last = refl
        ends (e ∷ part) last = absurd (omega (arith, last))

    tail : AsksTheSame part recorded
    tail k a at = earlier (h (suc k) a at)
      where
        earlier : ((d : Event) × (slice_get (b ∷ recorded) (suc k) ≡ Some d) × DoesTheSame (c ∷ part) (suc k) a d)
            → (d : Event) × (slice_get recorded k ≡ Some d) × DoesTheSame part k a d
        earlier (d, at, inl same) = (d, at, inl same)
        earlier (d, at, inr (last, read)) = (d, at, inr (omega (arith, last), read))

-- the goroutine asks the same in both lists
abbrev goroutine_asks : List Event → List Event → ℕ → Bool
goroutine_asks recorded other g = asks_the_same (execution_of g other) (execution_of g recorded)

abbrev partner_asks : List Event → List Event → Option ℕ → Bool
partner_asks recorded other None = true
partner_asks recorded other (Some g) = goroutine_asks recorded other g

-- so does each that takes part in an event of the rest
abbrev pub all_ask : List Event → List Event → List Event → Bool
all_ask recorded other [] = true
all_ask recorded other (e ∷ rest) =
    goroutine_asks recorded other e.who && (partner_asks recorded other (partner e.op) && all_ask recorded other rest)

module _ (recorded other : List Event) where
  asks_by : (rest : List Event) → IsTrue (all_ask recorded other rest) → (g i : ℕ) (e : Event) → slice_get rest i ≡ Some e → IsTrue (takes_part g e)
      → IsTrue (goroutine_asks recorded other g)
  asks_by [] is g i e at part = cc
  asks_by (d ∷ rest) is g zero e at part =
      by (or_cases _ _ (subst (λ (e : Event). IsTrue (takes_part g e)) (at_same (d ∷ rest) 0 e d at refl) part))
    where
      partner_by : (o : Option ℕ) → IsTrue (partner_asks recorded other o) → IsTrue (gives o g) → IsTrue (goroutine_asks recorded other g)
      partner_by None asks is = cc
      partner_by (Some h) asks is = subst (λ g. IsTrue (goroutine_asks recorded other g)) (eqb-true h g is) asks

      by : IsTrue (d.who == g) ⊎ IsTrue (gives (partner d.op) g) → IsTrue (goroutine_asks recorded other g)
      by (inl who) = subst (λ g. IsTrue (goroutine_asks recorded other g)) (eqb-true d.who g who) (and_parts _ _ is).0
      by (inr two) = partner_by (partner d.op) (and_parts _ _ (and_parts _ _ is).1).0 two
  asks_by (d ∷ rest) is g (suc i) e at part = asks_by rest (and_parts _ _ (and_parts _ _ is).1).1 g i e at part

  -- a legal list, in which each goroutine asks the same
  pub could_from : (caps : ℕ → ℕ) → IsTrue (all_kept caps [] other) → IsTrue (all_ask recorded other other) → CouldHaveRun caps recorded other
  could_from caps kept is = record {
    legal = legal_from caps other kept;
    asks_the_same = λ g k a at.
        let (i, there, part) = in_part (takes_part g) other k a at in
        asks_from (execution_of g other) (execution_of g recorded) (asks_by other is g i a there part) k a at;
  }

  -- a goroutine that doesn't
  pub could_not : (caps : ℕ → ℕ) (g : ℕ) → goroutine_asks recorded other g ≡ false → ¬ CouldHaveRun caps recorded other
  could_not caps g differs could =
      true≢false (sym (asks_to (execution_of g other) (execution_of g recorded) (could.asks_the_same g)) ∙ differs)

-- no list predicts a race of its own
pub predicts_another : (caps : ℕ → ℕ) (events : List Event) (x : ℕ) → ¬ IsPrediction caps events x events
predicts_another caps events x p = p.not_recorded _ _ (race_at_end caps events x p.ends_with_race)
