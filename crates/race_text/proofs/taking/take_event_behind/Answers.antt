use Rattle.std.proofs.Common.{◌≡◌, ◌+◌, length, rules, sym, ap, ◌∙◌}
use Rattle.race_text.specs.{Owed.owed, Fault.{seen_so_far, line_cause}, Reading.drafted, Taking.behind}
use Rattle.race_text.proofs.BehindLemmas.{count_behind, event_answered_behind, keeps_places, some_before, few_behind}
use Rattle.race_text.proofs.TraceLemmas.{cause_behind, fitting, event_grown, no_event_is_told, is_there, says_event}
use Rattle.race_text.proofs.taking.take_event_behind.Goals as goal

pub append-requires-clause-fits : goal.append-requires-clause-fits
append-requires-clause-fits g c =
    let is = says_event c.decls-decls.result.now c.args.trace.now.decls c.args.line.now
    (drafted c.in-Some.draft) c.decls-decls.ensures.well_formed c.decls-decls.ensures.decls (sym c.in-Some.ensures) in
    fitting c.args.trace.now.decls c.args.line.now (drafted c.in-Some.draft) is

pub append-requires-clause-limited : goal.append-requires-clause-limited
append-requires-clause-limited g c = (few_behind c.args.before c.args.trace.now c.requires.read).limited

pub append-requires-clause-few : goal.append-requires-clause-few
append-requires-clause-few g c = (few_behind c.args.before c.args.trace.now c.requires.read).places

pub unwrap-requires : goal.unwrap-requires
unwrap-requires g c =
    let count : c.args.before + c.len.result ≡ c.args.before + length c.args.trace.now.events = ap (λ n. c.args.before + n) c.len.ensures.len in
    is_there c.line_cause.result (λ none.
    no_event_is_told c.decls-decls.result.now.version c.decls-decls.result.now.declarations (c.args.before + c.len.result) c.args.line.now
    (sym c.in-None.ensures) (some_before (c.args.before + c.len.result) _ (λ zero. c.requires.ready (sym count ∙ zero)))
    (sym c.line_cause.ensures ∙ none))

pub returns-in-Some-clause-taken : goal.returns-in-Some-clause-taken
returns-in-Some-clause-taken g c = λ past count read.
    let is = says_event c.decls-decls.result.now c.args.trace.now.decls c.args.line.now
    (drafted c.in-Some.draft) c.decls-decls.ensures.well_formed c.decls-decls.ensures.decls (sym c.in-Some.ensures) in
    event_answered_behind c.args.before past c.args.trace.now c.append.new.trace c.args.line.now (drafted c.in-Some.draft) count read is
    c.append.result c.append.ensures

pub returns-in-Some-clause-grown : goal.returns-in-Some-clause-grown
returns-in-Some-clause-grown g c =
    event_grown c.args.before c.args.trace.now c.append.new.trace (drafted c.in-Some.draft) c.append.result c.append.ensures

pub returns-in-None-clause-taken : goal.returns-in-None-clause-taken
returns-in-None-clause-taken g c = λ past count read.
    let all = count_behind c.args.before past c.args.trace.now count ∙ ap (λ n. c.args.before + n) (sym c.len.ensures.len) in
    sym (ap owed (cause_behind (behind past c.args.trace.now) c.args.line.now read
    ∙ (λ i. line_cause (sym c.decls-decls.ensures.decls i).version
    (seen_so_far (sym c.decls-decls.ensures.decls i).declarations (all i)) c.args.line.now)
    ∙ sym c.line_cause.ensures ∙ c.unwrap.ensures))

pub returns-in-None-clause-grown : goal.returns-in-None-clause-grown
returns-in-None-clause-grown g c = search rules steps 100000

pub returns-in-Some-clause-places : goal.returns-in-Some-clause-places
returns-in-Some-clause-places g c =
    keeps_places c.args.before c.args.trace.now c.append.new.trace (drafted c.in-Some.draft) c.append.result c.append.ensures
