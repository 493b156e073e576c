use Rattle.std.proofs.{Common.{IsTrue, slice_get, refl, sym, subst, ap, ◌∙◌, arith}, lemmas.Option.slice_get_past}
use Rattle.race_records.specs.declared.kind.Kind.{Kind}
use Rattle.race_requests.specs.{declared.request.Ask.Ask, Possible.ask_is_in_range, Table.offers_of}
use Rattle.race_requests.proofs.OfferLemmas.{chan_in_range, offers_in_range}
use Rattle.race_requests.proofs.meet.offer_at.Goals as goal

pub returns-then-branch-len-clause-range : goal.returns-then-branch-len-clause-range
returns-then-branch-len-clause-range c counts is =
    chan_in_range (counts Kind.Chan) c.in-Select.offers c.args.branch c.get.result c.get.result
    (offers_in_range counts c.in-Select.offers c.in-Select.field-1 (subst (λ (a : Ask). IsTrue (ask_is_in_range counts a)) c.in-Select.is is))
    c.get.ensures refl

pub returns-else-branch-len-clause-offer : goal.returns-else-branch-len-clause-offer
returns-else-branch-len-clause-offer c =
    sym (slice_get_past c.in-Select.offers c.args.branch (omega (arith, c.len.ensures.len, c.if-branch-len.false)))
    ∙ sym (ap (λ (a : Ask). slice_get (offers_of a) c.args.branch) c.in-Select.is)
