use Rattle.std.proofs.Common.{Ok, Err}
use Rattle.race_text.{specs.Common.{line_in, said_of}, proofs.BehindLemmas.{event_answered_behind, few_behind}}
use Rattle.race_text.proofs.TraceLemmas.{fitting, says_event}
use Rattle.race_text.proofs.taking.take_common_behind.Goals as goal

pub append_said-requires-clause-fits : goal.append_said-requires-clause-fits
append_said-requires-clause-fits g c =
    fitting c.args.trace.now.decls (line_in c.args.bytes.now) (said_of c.in-Some.said)
    (says_event _ _ _ _ c.decls.ensures.well_formed c.decls.ensures.decls (c.in-Some.ensures.says c.decls.result.now.version))

pub append_said-requires-clause-limited : goal.append_said-requires-clause-limited
append_said-requires-clause-limited g c = (few_behind c.args.before c.args.trace.now c.requires.read).limited

pub append_said-requires-clause-few : goal.append_said-requires-clause-few
append_said-requires-clause-few g c = (few_behind c.args.before c.args.trace.now c.requires.read).places

pub returns-in-Ok-clause-taken : goal.returns-in-Ok-clause-taken
returns-in-Ok-clause-taken g c = λ past count read.
    let taken = event_answered_behind c.args.before past c.args.trace.now c.append_said.new.trace (line_in c.args.bytes.now) (said_of c.in-Some.said) count read
    (says_event _ _ _ _ c.decls.ensures.well_formed c.decls.ensures.decls (c.in-Some.ensures.says c.decls.result.now.version)) (Ok tt) c.in-Ok.ensures in
    ((c.in-Some.ensures.ends, record { no_cause = taken.no_cause; lines = taken.lines }), taken.is_read)

pub returns-in-Err-clause-taken : goal.returns-in-Err-clause-taken
returns-in-Err-clause-taken g c = λ past count read.
    let least = event_answered_behind c.args.before past c.args.trace.now c.append_said.new.trace (line_in c.args.bytes.now) (said_of c.in-Some.said) count read
    (says_event _ _ _ _ c.decls.ensures.well_formed c.decls.ensures.decls (c.in-Some.ensures.says c.decls.result.now.version)) (Err c.in-Err.cause) c.in-Err.ensures in
    record { rest = c.in-Some.rest.now; ends = c.in-Some.ensures.ends; least = least }
