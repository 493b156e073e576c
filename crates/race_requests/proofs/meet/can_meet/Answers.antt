-- The event in which they meet breaks no rule just where none is told.
use Rattle.std.proofs.Common.{is_none, sym, ap, ◌∙◌}
use Rattle.race_records.specs.Declarations.{capacity_of}
use Rattle.race_legal.specs.ReplayState.{counts_in}
use Rattle.race_requests.{specs.Choices.is_legal_next, proofs.{PossibleLemmas.none_is_told, RangeLemmas.meeting}}
use Rattle.race_requests.proofs.meet.can_meet.Goals as goal

pub breaks-requires : goal.breaks-requires
breaks-requires g c =
    meeting (counts_in c.args.replay.now) c.args.sender.now c.args.receiver.now c.args.branch c.args.other_branch c.in-Some.event
    c.requires.who c.requires.whom c.requires.range c.in-Some.ensures

pub returns-in-Some : goal.returns-in-Some
returns-in-Some g c past S =
    let D = c.args.decls.now.declarations in
    none_is_told c.breaks.result c.is_none.result c.is_none.ensures ∙ ap is_none (sym (c.breaks.ensures D past S))
    ∙ ap (is_legal_next (capacity_of D) past) c.in-Some.ensures

pub returns-in-None : goal.returns-in-None
returns-in-None g c past S = ap (is_legal_next (capacity_of c.args.decls.now.declarations) past) c.in-None.ensures
