-- What was read is kept, and a fault that isn't want of memory is the first one of the lines that are ended.
use Rattle.std.proofs.{Common.{take, sym, rules, ◌∙◌}, lemmas.Result.IfErr-at_err}
use Rattle.race_tool.proofs.input.feed_block.Goals as goal

pub returns-in-Ok-Err-clause-ok : goal.returns-in-Ok-Err-clause-ok
returns-in-Ok-Err-clause-ok g c = λ k.
    let others = IfErr-at_err _ c.in-Ok-Err.field-0-is c.in-Ok-Err.ensures.others in
    let told = IfErr-at_err _ (sym c.in-Ok-Err.ensures.same ∙ c.in-Ok-Err.field-0-is) c.feed.ensures.err in
    record {
      feeds = record {
        taken = take c.in-Ok.taken c.read.new.buf;
        short = search rules;
        consumed = search rules;
        goes_on = c.feed.ensures.goes_on k;
        told = λ fed S. (told k fed S).ended others;
      };
      keeps = search rules;
    }

pub returns-in-Ok-Ok-clause-ok : goal.returns-in-Ok-Ok-clause-ok
returns-in-Ok-Ok-clause-ok g c = λ k.
    record {
      feeds = record {
        taken = take c.in-Ok.taken c.read.new.buf;
        short = search rules;
        consumed = search rules;
        goes_on = c.feed.ensures.goes_on k;
        told = search rules;
      };
      keeps = search rules;
    }
