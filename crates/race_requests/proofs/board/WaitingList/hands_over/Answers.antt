-- The channel is declared, and each reader answers the word of the run so far.
use Rattle.std.proofs.Common.{◌==◌, ◌&&◌, not, false, Option, Some, None, arith, ap, ◌∙◌}
use Rattle.std.proofs.lemmas.Bool.Decides.{nat_tests}
use Rattle.race_records.specs.{declared.kind.Kind.Kind, Declarations.{capacity_of, count_of}}
use Rattle.race_model.specs.State.{is_closed}
use Rattle.race_requests.proofs.WaitingLemmas.{same_channels, sent_is_in_range}
use Rattle.race_requests.proofs.board.WaitingList.hands_over.Goals as goal

pub is_closed-requires : goal.is_closed-requires
is_closed-requires g c =
    let r = c.run.result in
    let same = same_channels r.1.now.declarations r.0.now c.args.self.now.past c.run.ensures.stands in
    let counted = ap (count_of Kind.Chan) c.run.ensures.declarations in
    let less = sent_is_in_range (count_of Kind.Chan c.args.self.now.declarations) c.args.offer c.in-Some.chan c.in-Some.ensures c.requires in
    grind (arith, nat_tests)

pub returns : goal.returns
returns g c =
    let r = c.run.result in
    let past = c.args.self.now.past in
    c.is_rendezvous.ensures
    ∙ (λ i. (c.capacity.ensures i == 0) && not (c.is_closed.ensures r.1.now.declarations past c.run.ensures.stands i))
    ∙ ap (λ ds. (capacity_of ds c.in-Some.chan == 0) && not (is_closed c.in-Some.chan past)) c.run.ensures.declarations
    ∙ ap (λ (o : Option _). elim o [ Some n ↦ (capacity_of c.args.self.now.declarations n == 0) && not (is_closed n past) | None ↦ false ]) c.in-Some.ensures
