-- An offer makes what a send or a receive does.
use Rattle.std.proofs.{lemmas.Grind.elements, Common.{◌==◌, ◌&&◌, List, map, length, Option, Some, None, sym, ap, ◌∙◌}}
use Rattle.std.{proofs.Common.arith, specs.List.list_all}
use Rattle.race_records.specs.declared.{event.Op.TheVariants.Default, cases.Case.Case, kind.Kind.Kind}
use Rattle.race_records.specs.Operands.{case_is_in_range}
use Rattle.race_legal.specs.ReplayState.{counts_in}
use Rattle.race_requests.specs.{declared.request.Offer.Offer, Choices.lone_op, Offers.case_of}
use Rattle.race_requests.proofs.{OfferLemmas.{by_offer_at, chan_in_range, cases_in_range}, RangeLemmas.alone}
use Rattle.race_requests.proofs.making.lone_select.Goals as goal

pub lone_send-requires : goal.lone_send-requires
lone_send-requires g c =
    chan_in_range (counts_in c.args.replay.now Kind.Chan) c.args.offers.now c.args.branch c.get.result _ c.requires c.get.ensures c.in-Send.is

pub lone_recv-requires : goal.lone_recv-requires
lone_recv-requires g c =
    chan_in_range (counts_in c.args.replay.now Kind.Chan) c.args.offers.now c.args.branch c.get.result _ c.requires c.get.ensures c.in-Recv.is

pub returns-in-Send-clause-op : goal.returns-in-Send-clause-op
returns-in-Send-clause-op g c D past S =
    let test = sym c.is_default_branch.ensures ∙ c.if-is_default_branch.false in
    c.lone_send.ensures.op D past S c.args.branch ∙ sym (ap (lone_op past) c.in-Send.is)
    ∙ by_offer_at c.args.offers.now c.args.branch (Some c.get.result) (c.args.has_default && (c.args.branch == length c.args.offers.now))
    (Some (Default (map case_of c.args.offers.now)))
    (λ (o : Option Offer). elim o [ Some o ↦ lone_op past o | None ↦ None ]) test c.get.ensures

pub returns-in-Recv-clause-op : goal.returns-in-Recv-clause-op
returns-in-Recv-clause-op g c D past S =
    let test = sym c.is_default_branch.ensures ∙ c.if-is_default_branch.false in
    c.lone_recv.ensures.op D past S c.args.branch ∙ sym (ap (lone_op past) c.in-Recv.is)
    ∙ by_offer_at c.args.offers.now c.args.branch (Some c.get.result) (c.args.has_default && (c.args.branch == length c.args.offers.now))
    (Some (Default (map case_of c.args.offers.now)))
    (λ (o : Option Offer). elim o [ Some o ↦ lone_op past o | None ↦ None ]) test c.get.ensures

pub returns-then-at-len-clause-op : goal.returns-then-at-len-clause-op
returns-then-at-len-clause-op c = grind (arith, elements) steps 1000000

pub returns-then-is_default_branch-clause-range : goal.returns-then-is_default_branch-clause-range
returns-then-is_default_branch-clause-range g c =
    let chans = counts_in c.args.replay.now Kind.Chan in
    alone _ (ap (λ (cases : List Case). list_all (case_is_in_range chans) cases) c.cases.ensures ∙ cases_in_range chans c.args.offers.now c.requires)
