use Rattle.std.proofs.{lemmas.Grind.common_steps, Common.{List, slice_get, Some, None, sym, ap, subst}}
use Rattle.std.proofs.Common.{◌∙◌, arith, true≢false}
use Rattle.race_records.specs.declared.event.Event.{Event}
use Rattle.race_hub.specs.Part.{part_of}
use Rattle.race_script.specs.{Certificate.{WaitsAt, waiting_of}, Course.IsPassed, Program.spelled}
use Rattle.race_script.proofs.{CertifyLemmas.stops_so, StuckLemmas.{event_of, along_none, along_next, stuck_inside}}
use Rattle.race_script.proofs.StuckLemmas.{stuck_behind, runs}
use Rattle.race_script.proofs.certificate.stuck_at.Goals as goal

pub loop-k-init : goal.loop-k-init
loop-k-init g c = along_none _ _ _ _

pub loop-k-preserved : goal.loop-k-preserved
loop-k-preserved g c =
    let who = c.args.goroutine in let events = c.args.recording.now.events in
    let own = spelled c.decls.result.now.places c.body.result.now.items in
    let places = c.decls-2.result.now.places in
    let e = event_of who c.logs-log.result.now.items events c.last_fault.result c.loop-k.k c.step.result c.logs-log.ensures.part
    (λ n e at. c.last_fault.ensures n e (ap (λ (es : List Event). slice_get es n) c.trace-trace.ensures.events ∙ at)) c.step.ensures in
    along_next own places who (part_of who events) c.loop-k.k c.loop-k.position c.in-Some.behind e.0 e.1 c.loop-k.invariant
    (subst (IsPassed own places who c.loop-k.position e.0) c.in-Some.is (c.passed.ensures e.0 e.2 e.3))

pub returns-in-None : goal.returns-in-None
returns-in-None g c =
    let who = c.args.goroutine in let events = c.args.recording.now.events in
    let own = spelled c.decls.result.now.places c.body.result.now.items in
    let places = c.decls-2.result.now.places in
    let e = event_of who c.logs-log.result.now.items events c.last_fault.result c.loop-k.k c.step.result c.logs-log.ensures.part
    (λ n e at. c.last_fault.ensures n e (ap (λ (es : List Event). slice_get es n) c.trace-trace.ensures.events ∙ at)) c.step.ensures in
    stops_so c.args.program.now c.args.recording.now who c.decls.result.now c.decls-2.result.now c.body.result.now.items
    c.decls.ensures.decls (c.decls-2.ensures.decls ∙ c.trace-trace.ensures.decls) c.body.ensures.body (Some c.loop-k.position)
    (stuck_inside _ _ _ _ _ _ _ e.0 e.1 c.loop-k.invariant (subst (IsPassed own places who c.loop-k.position e.0) c.in-None.is (c.passed.ensures e.0 e.2 e.3)))

pub returns-then-waits : goal.returns-then-waits
returns-then-waits g c =
    let who = c.args.goroutine in
    let own = spelled c.decls.result.now.places c.body.result.now.items in
    let places = c.decls-2.result.now.places in
    let many = c.logs-log.ensures.part.as_many in let end = c.loop-k-test.false in let count = c.len-k-end.ensures in
    stops_so c.args.program.now c.args.recording.now who c.decls.result.now c.decls-2.result.now c.body.result.now.items
    c.decls.ensures.decls (c.decls-2.ensures.decls ∙ c.trace-trace.ensures.decls) c.body.ensures.body None
    (runs own places who (part_of who c.args.recording.now.events) (waiting_of who c.args.recording.now.waiting) c.loop-k.k c.loop-k.position
    (omega (arith, many, end, count)) c.loop-k.invariant
    (subst (WaitsAt own places who c.loop-k.position) c.waiting.ensures (c.waits.ensures.0 c.if-waits.true)))

pub returns-else-waits : goal.returns-else-waits
returns-else-waits g c =
    let who = c.args.goroutine in
    let own = spelled c.decls.result.now.places c.body.result.now.items in
    let places = c.decls-2.result.now.places in
    let many = c.logs-log.ensures.part.as_many in let end = c.loop-k-test.false in let count = c.len-k-end.ensures in
    stops_so c.args.program.now c.args.recording.now who c.decls.result.now c.decls-2.result.now c.body.result.now.items
    c.decls.ensures.decls (c.decls-2.ensures.decls ∙ c.trace-trace.ensures.decls) c.body.ensures.body (Some c.loop-k.position)
    (stuck_behind own places who (part_of who c.args.recording.now.events) (waiting_of who c.args.recording.now.waiting) c.loop-k.k c.loop-k.position
    (omega (arith, many, end, count)) c.loop-k.invariant
    (λ waits. true≢false (sym (c.waits.ensures.1 (subst (WaitsAt own places who c.loop-k.position) (sym c.waiting.ensures) waits)) ∙ c.if-waits.false)))

pub logs-log-requires : goal.logs-log-requires
logs-log-requires c = grind (arith, common_steps) steps 300000
