use Rattle.std.proofs.Common.{◌≡◌, ◌+◌, length, arith}
use Rattle.race_records.specs.Declarations.{capacity_of}
use Rattle.race_script.proofs.CourseLemmas.{last_event}
use Rattle.race_script.proofs.course.last_fault.Goals as goal

pub returns-in-Fault : goal.returns-in-Fault
returns-in-Fault g c = λ n e at cause is.
    let trace = c.args.trace.now in
    let len = c.len.ensures.len in
    let some = c.in_ok-last.ensures.0 in
    let last = c.in_ok-last.ensures.1 in
    let ends : c.in_ok-last.last + 1 ≡ length trace.events = omega (arith, len, some, last) in
    let fails = last_event (capacity_of trace.decls.declarations) trace.events n c.in_ok-last.last e c.event.result.now cause c.requires at is
    c.event.ensures.event ends in
    let here = c.in-Fault.is in
    cc

pub returns-in_default : goal.returns-in_default
returns-in_default g c = λ n e at cause is.
    let trace = c.args.trace.now in
    let len = c.len.ensures.len in
    let some = c.in_ok-last.ensures.0 in
    let last = c.in_ok-last.ensures.1 in
    let ends : c.in_ok-last.last + 1 ≡ length trace.events = omega (arith, len, some, last) in
    absurd (c.in_default.not-Fault cause
    (last_event (capacity_of trace.decls.declarations) trace.events n c.in_ok-last.last e c.event.result.now cause c.requires
    at is c.event.ensures.event ends))
