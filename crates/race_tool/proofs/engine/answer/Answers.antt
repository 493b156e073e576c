use Rattle.std.proofs.Common.{Ok, Err, refl, ap, rules}
use Rattle.race_tool.specs.declared.{engine.Unanswered.Unanswered, reply.Reply.Reply}
use Rattle.race_tool.proofs.EngineLemmas.{was_read_so, answers_sent, answers_refused, answers_unrecorded, answers_by_fault}
use Rattle.race_tool.proofs.EngineLemmas.{ok_of, found_fits}
use Rattle.race_tool.proofs.engine.answer.Goals as goal

pub find-requires : goal.find-requires
find-requires g c =
    let reads = c.requires.reads c.args.source.now c.read.result c.read.new.arg2
    record { shown = _; shows = refl; left = _; met = c.read.ensures; leaves = refl } in
    let is = ok_of c.read.result c.in-Ok-Ok.field-0 (Ok c.in-Ok-Ok.whole) c.in-Ok-Ok.is c.in-Ok-Ok.field-0-is in
    let so = was_read_so _ _ _ _ _ c.read.result reads (Ok c.in-Ok-Ok.whole) is in
    search (rules, c.requires.can_find c.in-Ok-Ok.whole _ so)

pub send-requires : goal.send-requires
send-requires g c =
    let reads = c.requires.reads c.args.source.now c.read.result c.read.new.arg2
    record { shown = _; shows = refl; left = _; met = c.read.ensures; leaves = refl } in
    let is = ok_of c.read.result c.in-Ok-Ok.field-0 (Ok c.in-Ok-Ok.whole) c.in-Ok-Ok.is c.in-Ok-Ok.field-0-is in
    let so = was_read_so _ _ _ _ _ c.read.result reads (Ok c.in-Ok-Ok.whole) is in
    let finds = c.requires.finds c.in-Ok-Ok.whole _ c.in-Ok.ensures in
    found_fits (g.E.Engine.is_right c.args.engine.now) g.E.Found.Shown.is_printable c.requires.printable _ c.in-Ok.reply (finds.ok _ so)

pub returns-in-Ok : goal.returns-in-Ok
returns-in-Ok g c =
    let reads = c.requires.reads c.args.source.now c.read.result c.read.new.arg2
    record { shown = _; shows = refl; left = _; met = c.read.ensures; leaves = refl } in
    let is = ok_of c.read.result c.in-Ok-Ok.field-0 (Ok c.in-Ok-Ok.whole) c.in-Ok-Ok.is c.in-Ok-Ok.field-0-is in
    let finds = c.requires.finds c.in-Ok-Ok.whole _ c.in-Ok.ensures in
    answers_sent _ _ _ _ _ _ _ _ _ _ _ c.read.result reads (Ok c.in-Ok-Ok.whole) is c.in-Ok.reply c.send.new.sink c.send.result finds.ok c.send.ensures

pub returns-in-Err-Refused : goal.returns-in-Err-Refused
returns-in-Err-Refused g c =
    let reads = c.requires.reads c.args.source.now c.read.result c.read.new.arg2
    record { shown = _; shows = refl; left = _; met = c.read.ensures; leaves = refl } in
    let is = ok_of c.read.result c.in-Ok-Ok.field-0 (Ok c.in-Ok-Ok.whole) c.in-Ok-Ok.is c.in-Ok-Ok.field-0-is in
    answers_refused _ _ _ _ _ _ _ _ _ _ _ c.read.result reads c.in-Ok-Ok.whole is

pub returns-in-Err-Unrecorded : goal.returns-in-Err-Unrecorded
returns-in-Err-Unrecorded g c =
    let reads = c.requires.reads c.args.source.now c.read.result c.read.new.arg2
    record { shown = _; shows = refl; left = _; met = c.read.ensures; leaves = refl } in
    let is = ok_of c.read.result c.in-Ok-Ok.field-0 (Ok c.in-Ok-Ok.whole) c.in-Ok-Ok.is c.in-Ok-Ok.field-0-is in
    let finds = c.requires.finds c.in-Ok-Ok.whole _ c.in-Err-Unrecorded.ensures in
    answers_unrecorded _ _ _ _ _ _ _ _ _ _ _ c.read.result reads c.in-Ok-Ok.whole is
    (finds.mismatch (ap (λ (why : Unanswered). Err why) c.in-Err-Unrecorded.field-0-is))

pub returns-in-Ok-Err : goal.returns-in-Ok-Err
returns-in-Ok-Err g c =
    let reads = c.requires.reads c.args.source.now c.read.result c.read.new.arg2
    record { shown = _; shows = refl; left = _; met = c.read.ensures; leaves = refl } in
    let is = ok_of c.read.result c.in-Ok-Err.field-0 (Err c.in-Ok-Err.fault) c.in-Ok-Err.is c.in-Ok-Err.field-0-is in
    answers_sent _ _ _ _ _ _ _ _ _ _ _ c.read.result reads (Err c.in-Ok-Err.fault) is (Reply.Faulty c.in-Ok-Err.fault) c.send-in-Ok-Err.new.sink c.send-in-Ok-Err.result
    (λ bytes so. c.requires.faulty bytes c.in-Ok-Err.fault so) c.send-in-Ok-Err.ensures

pub returns-in-Err : goal.returns-in-Err
returns-in-Err g c =
    let reads = c.requires.reads c.args.source.now c.read.result c.read.new.arg2
    record { shown = _; shows = refl; left = _; met = c.read.ensures; leaves = refl } in
    answers_by_fault _ _ _ _ _ _ _ _ _ _ _ c.read.result reads c.in-Err.fault c.in-Err.is c.status_of_fault.result c.status_of_fault.ensures
