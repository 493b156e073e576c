use Rattle.std.proofs.Common.{◌≡◌, Err, ap, inl}
use Rattle.race_record.specs.declared.fault.RecordFault.{RecordFault}
use Rattle.race_explore.specs.declared.fault.ExploreFault.{ExploreFault}
use Rattle.race_explore.proofs.ScriptLemmas.{noted_run, refused_run}
use Rattle.race_explore.proofs.walked.run_by.Goals as goal

pub returns-in-Ok-clause-run : goal.returns-in-Ok-clause-run
returns-in-Ok-clause-run g c =
    noted_run c.args.program.now c.args.limit c.args.picks.now c.in_ok-hub.hub c.in_ok-hub.ensures.opens c.in-Ok.recording c.in-Ok.ensures.serial
    c.record_noting.new.forks.items c.certified.result c.in-Ok.ensures.noting c.in-Ok.ensures.recording c.certified.ensures.same c.certified.ensures.run

pub returns-in-Ok-clause-refused : goal.returns-in-Ok-clause-refused
returns-in-Ok-clause-refused g c = λ is.
    refused_run c.args.program.now c.args.limit c.args.picks.now c.in_ok-hub.hub c.in_ok-hub.ensures.opens c.in-Ok.recording c.in-Ok.ensures.serial
    c.certified.result ExploreFault.NotARun c.certified.ensures.none is

pub returns-in-Err-clause-refused : goal.returns-in-Err-clause-refused
returns-in-Err-clause-refused g c = λ is.
    let not_a_run : c.unrecorded.result ≡ ExploreFault.NotARun = cc is in
    record {
      hub = c.in_ok-hub.hub;
      opens = c.in_ok-hub.ensures.opens;
      refused = inl (c.in-Err.ensures.mismatch (ap (λ (fault : RecordFault). Err fault) (c.unrecorded.ensures.mismatch not_a_run)));
    }
