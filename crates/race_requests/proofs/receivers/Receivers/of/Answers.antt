use Rattle.std.proofs.{Common.{◌≡◌, ◌≤◌, ◌+◌, inl, inr, arith, sym, ap, ◌∙◌, subst}, lemmas.Bool.cases_lt}
use Rattle.race_requests.specs.{Receivers.{first_of, end_of, IsInSpan}, Waiting.receives_at}
use Rattle.race_requests.proofs.ReceiverLemmas.{receiver_asks, receiver_within, in_spans}
use Rattle.race_requests.proofs.receivers.Receivers.of.Goals as goal

pub loop-place-preserved : goal.loop-place-preserved
loop-place-preserved c = record {
  marked = λ chan p below received. elim (cases_lt p c.loop-place.place) [
    | inl early ↦ c.mark_offers.ensures.kept chan p (c.loop-place.invariant.marked chan p early received)
    | inr late ↦
        let last : p ≡ c.loop-place.place = omega (arith, below, late) in
        subst (IsInSpan c.mark_offers.new.self chan) (sym last)
        (c.mark_offers.ensures.marked chan
        (receiver_asks c.args.waiting.now chan c.loop-place.place _ c.loop-place-test.true
        (ap (receives_at c.args.waiting.now chan) (sym last) ∙ received)))
  ];
  last = λ chan.
      let reach : (first_of c.mark_offers.new.self chan ≤ c.loop-place.place) × (end_of c.mark_offers.new.self chan ≤ c.loop-place.place + 1) = c.mark_offers.ensures.last chan in
      (omega (arith, reach), omega (arith, reach));
}

pub returns : goal.returns
returns c =
    in_spans c.args.waiting.now c.loop-place.receivers (λ chan p received.
    c.loop-place.invariant.marked chan p (omega (arith, receiver_within c.args.waiting.now chan p received, c.loop-place-test.false)) received)
