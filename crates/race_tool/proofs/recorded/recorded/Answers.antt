use Rattle.std.{proofs.Common.{ap, sym, ◌∙◌, Some}, specs.Option.option_map}
use Rattle.race_tool.{specs.Options.picks_asked, proofs.OptionLemmas.{by_picks, without_picks}}
use Rattle.race_tool.proofs.recorded.recorded.Goals as goal

pub returns-in-Some-clause-serial : goal.returns-in-Some-clause-serial
returns-in-Some-clause-serial g c =
    by_picks g.R.Routine.asks c.args.hub c.record_serial.result (picks_asked c.args.options.now) c.as_slice.result.now
    (ap (option_map (λ picks. picks.items)) c.in-Some.is ∙ ap Some (sym c.as_slice.ensures.value)) c.record_serial.ensures.ok

pub returns-in-None-clause-serial : goal.returns-in-None-clause-serial
returns-in-None-clause-serial g c =
    without_picks g.R.Routine.asks c.args.hub c.record.result (picks_asked c.args.options.now) (ap (option_map (λ picks. picks.items)) c.in-None.is)
