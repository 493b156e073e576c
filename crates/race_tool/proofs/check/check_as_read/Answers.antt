use Rattle.std.proofs.Common.{Ok, Err}
use Rattle.race_tool.specs.declared.reply.Reply.{Reply}
use Rattle.race_tool.proofs.{EngineLemmas.{was_read_so, ok_of, answers_sent, answers_refused}, StreamedAnswers.is_named}
use Rattle.race_tool.proofs.check.check_as_read.Goals as goal

pub send-requires : goal.send-requires
send-requires g c =
    let is = ok_of c.read_judged.result c.in-Ok-Ok.field-0 (Ok c.in-Ok-Ok.whole) c.in-Ok-Ok.is c.in-Ok-Ok.field-0-is in
    let so = was_read_so _ _ _ _ _ c.read_judged.result c.read_judged.ensures (Ok c.in-Ok-Ok.whole) is in
    is_named c.in-Ok.noted _ (c.in-Ok.ensures _ so)

pub returns-in-Ok : goal.returns-in-Ok
returns-in-Ok g c =
    let is = ok_of c.read_judged.result c.in-Ok-Ok.field-0 (Ok c.in-Ok-Ok.whole) c.in-Ok-Ok.is c.in-Ok-Ok.field-0-is in
    answers_sent _ _ _ _ _ _ _ _ _ _ _ c.read_judged.result c.read_judged.ensures (Ok c.in-Ok-Ok.whole) is
    (Reply.Found c.in-Ok.noted) c.send.new.sink c.send.result (λ bytes text. c.in-Ok.ensures bytes text) c.send.ensures

pub returns-in-Ok-Err : goal.returns-in-Ok-Err
returns-in-Ok-Err g c =
    let is = ok_of c.read_judged.result c.in-Ok-Err.field-0 (Err c.in-Ok-Err.fault) c.in-Ok-Err.is c.in-Ok-Err.field-0-is in
    answers_sent _ _ _ _ _ _ _ _ _ _ _ c.read_judged.result c.read_judged.ensures (Err c.in-Ok-Err.fault) is
    (Reply.Faulty c.in-Ok-Err.fault) c.send-in-Ok-Err.new.sink c.send-in-Ok-Err.result (λ bytes so. so) c.send-in-Ok-Err.ensures

pub returns-in-Err-find_judged : goal.returns-in-Err-find_judged
returns-in-Err-find_judged g c =
    let is = ok_of c.read_judged.result c.in-Ok-Ok.field-0 (Ok c.in-Ok-Ok.whole) c.in-Ok-Ok.is c.in-Ok-Ok.field-0-is in
    answers_refused _ _ _ _ _ _ _ _ _ _ _ c.read_judged.result c.read_judged.ensures c.in-Ok-Ok.whole is
