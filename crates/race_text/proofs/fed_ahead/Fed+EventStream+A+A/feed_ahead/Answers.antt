-- What is behind the lines that were taken goes on in the piece, and a fault that was told stays.
use Rattle.std.proofs.Common.{◌++◌, take, sym, subst}
use Rattle.race_text.specs.{Fault.trace_causes, Fed.IsUnended, Stream.StandsFor}
use Rattle.race_text.proofs.AheadTaken.{fed_on}
use Rattle.race_text.proofs.FedLemmas.{told_stays, told_of, told_behind, none_behind, owed_of}
use Rattle.race_text.proofs.fed_ahead.Fed+EventStream+A+A.feed_ahead.Goals as goal

pub returns-in-Some-clause-goes_on : goal.returns-in-Some-clause-goes_on
returns-in-Some-clause-goes_on g c = λ k fed S.
    told_stays trace_causes (StandsFor k) c.args.self.now c.args.piece.now fed c.in-Some.fault c.in-Some.is S

pub returns-in-Some-clause-err : goal.returns-in-Some-clause-err
returns-in-Some-clause-err g c = λ k fed S.
    told_of trace_causes (StandsFor k) c.args.self.now (fed ++ c.args.piece.now) c.in-Some.fault c.in-Some.is
    (told_stays trace_causes (StandsFor k) c.args.self.now c.args.piece.now fed c.in-Some.fault c.in-Some.is S)

pub returns-in-Ok-clause-ok : goal.returns-in-Ok-clause-ok
returns-in-Ok-clause-ok g c = λ k fed S.
    none_behind trace_causes (StandsFor k) c.args.self.now (StandsFor k c.take_ahead.new.self.reader) c.take_ahead.new.self.part.items
    (take c.in-Ok.at c.args.piece.now) fed c.in-None.is
    (subst (λ p. IsUnended p.items) (sym c.take_ahead.ensures.same) (c.requires.1 c.in-None.is).unended) (c.in-Ok.ensures.taken k) S

pub returns-in-Err-clause-err : goal.returns-in-Err-clause-err
returns-in-Err-clause-err g c = λ k fed S.
    told_behind trace_causes (StandsFor k) c.args.self.now c.args.piece.now fed c.in-Err.fault c.in-None.is (c.in-Err.ensures.taken k) S

pub returns-in-Err-clause-owed : goal.returns-in-Err-clause-owed
returns-in-Err-clause-owed g c = λ fine none k fed S.
    owed_of trace_causes (StandsFor k) c.args.self.now c.args.piece.now fed c.in-Err.fault fine none (c.in-Err.ensures.owed none k) S

pub returns-in-Ok-clause-goes_on : goal.returns-in-Ok-clause-goes_on
returns-in-Ok-clause-goes_on g c = λ k fed S.
    fed_on trace_causes (StandsFor k) c.args.self.now (record { lines = c.take_ahead.new.self; fault = c.args.self.now.fault }) (take c.in-Ok.at c.args.piece.now) fed
    c.in-None.is c.in-None.is (c.in-Ok.ensures.taken k) S
