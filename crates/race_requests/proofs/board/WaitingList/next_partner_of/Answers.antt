use Rattle.std.proofs.{lemmas.Grind.common_steps, Common.{◌∙◌, ap, arith}}
use Rattle.race_records.specs.Declarations.{capacity_of}
use Rattle.race_requests.{specs.Waiting.sent_on, proofs.MoveLemmas.passed_over}
use Rattle.race_requests.proofs.board.WaitingList.next_partner_of.Goals as goal

pub hands_over-requires : goal.hands_over-requires
hands_over-requires c = grind (arith, common_steps) steps 300000

pub at-requires : goal.at-requires
at-requires c = grind (arith, common_steps) steps 1000000

pub returns-clause-passed : goal.returns-clause-passed
returns-clause-passed g c p least less q =
    passed_over (capacity_of c.args.self.now.declarations)
    c.args.self.now.past c.args.self.now.waiting c.at.result.now c.args.place c.args.branch p q c.in-Some.chan
    c.at.ensures.found (c.in-Some.ensures ∙ ap sent_on c.offer_at-offer.ensures.offer) (c.next_receiver-next.ensures.passed p least less)
