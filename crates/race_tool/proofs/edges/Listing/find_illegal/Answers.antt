use Rattle.std.proofs.{Common.{◌∙◌, Option, sym, subst}, lemmas.Option.none-some}
use Rattle.race_legal.specs.{declared.legality.Illegal.Illegal, Judged.IsJudged}
use Rattle.race_verdict.specs.Traces.{capacities}
use Rattle.race_tool.proofs.edges.Listing.find_illegal.Goals as goal

-- an illegal trace isn't judged legal
pub unreachable-requires : goal.unreachable-requires
unreachable-requires g c =
    let trace = c.args.trace.now in
    let broken = c.requires.broken in
    let legal = subst (λ (o : Option Illegal). IsJudged (capacities trace) trace.events o) c.in-None.is c.in_ok-illegal.ensures in
    none-some c.requires.rule (sym (legal c.requires.index broken.0 broken.1) ∙ broken.2)
