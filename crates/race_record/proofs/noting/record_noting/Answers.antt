use Rattle.std.proofs.{lemmas.Grind.common_steps, Common.{ap, arith}}
use Rattle.race_records.specs.Equality.{declared}
use Rattle.race_record.proofs.{RecordedLemmas.recording_of, SerialLemmas.{comes_goes_on, only_log}, NotingLemmas.notes_come}
use Rattle.race_record.proofs.noting.record_noting.Goals as goal

pub returns-in-Ok-finished-clause-serial : goal.returns-in-Ok-finished-clause-serial
returns-in-Ok-finished-clause-serial g c =
    let out = c.in-Ok.ensures in
    (c.run_noting.new.hub, notes_come g.R.Routine.asks c.args.picks.now c.args.hub out.notes, c.in-Ok-finished.ensures.ok)

pub returns-in-Ok-finished-clause-noting : goal.returns-in-Ok-finished-clause-noting
returns-in-Ok-finished-clause-noting g c = (c.run_noting.new.hub, c.in-Ok.ensures.notes, c.in-Ok-finished.ensures.ok)

pub returns-in-Ok-finished-clause-recording : goal.returns-in-Ok-finished-clause-recording
returns-in-Ok-finished-clause-recording g c =
    let comes = notes_come g.R.Routine.asks c.args.picks.now c.args.hub c.in-Ok.ensures.notes in
    let goes = comes_goes_on g.R.Routine.asks c.args.picks.now c.args.hub comes in
    recording_of c.args.hub c.run_noting.new.hub c.in-Ok-finished.recording (ap declared goes.decls) goes.limit c.in-Ok-finished.ensures.recording

pub returns-in-Err-clause-mismatch : goal.returns-in-Err-clause-mismatch
returns-in-Err-clause-mismatch g c = λ _.
    let out = c.in-Ok.ensures in
    let (mismatch, why) = c.in-Err.ensures.err in
    let (g2, is) = only_log c.run_noting.new.hub mismatch why out.ended out.back in
    (c.run_noting.new.hub, notes_come g.R.Routine.asks c.args.picks.now c.args.hub out.notes, g2, is)

pub run_noting-requires-clause-back : goal.run_noting-requires-clause-back
run_noting-requires-clause-back c = grind (arith, common_steps) steps 2000000
