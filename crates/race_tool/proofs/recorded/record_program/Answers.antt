use Rattle.std.proofs.Common.{◌≡◌, Err, ap}
use Rattle.race_record.specs.declared.fault.RecordFault.{RecordFault}
use Rattle.race_tool.specs.{Options.picks_asked, declared.engine.Unanswered.Unanswered}
use Rattle.race_tool.proofs.RunLemmas.{turned_away, certified_run, uncertified_run}
use Rattle.race_tool.proofs.recorded.record_program.Goals as goal

pub returns-in-Err-clause-unrecorded : goal.returns-in-Err-clause-unrecorded
returns-in-Err-clause-unrecorded g c = λ is.
    let unrecorded : c.no_finding.result ≡ Unanswered.Unrecorded = cc is in
    turned_away c.args.program.now c.args.options.now.limit (picks_asked c.args.options.now) c.in_ok-hub.hub c.in_ok-hub.ensures.opens
    (c.in-Err.ensures.mismatch (ap (λ (fault : RecordFault). Err fault) (c.no_finding.ensures.0 unrecorded)))

pub returns-in-Ok-clause-run : goal.returns-in-Ok-clause-run
returns-in-Ok-clause-run g c =
    certified_run c.args.program.now c.args.options.now.limit (picks_asked c.args.options.now) c.in_ok-hub.hub c.in_ok-hub.ensures.opens
    c.in-Ok.recording c.in-Ok.ensures.serial
    c.certified.result c.in-Ok.ensures.recording c.certified.ensures.same c.certified.ensures.run c.certified.ensures.text

pub returns-in-Ok-clause-unrecorded : goal.returns-in-Ok-clause-unrecorded
returns-in-Ok-clause-unrecorded g c = λ is.
    uncertified_run c.args.program.now c.args.options.now.limit (picks_asked c.args.options.now) c.in_ok-hub.hub c.in_ok-hub.ensures.opens
    c.in-Ok.recording c.in-Ok.ensures.serial
    c.certified.result Unanswered.Unrecorded c.certified.ensures.none is
