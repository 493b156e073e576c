use Rattle.std.proofs.Common.{ap, sym, ◌∙◌}
use Rattle.race_records.specs.declared.event.Op.{Op}
use Rattle.race_script.specs.{Certificate.after_event, Program.asks_of}
use Rattle.race_script.proofs.course.behind.Goals as goal

pub returns-in-OnceDone : goal.returns-in-OnceDone
returns-in-OnceDone g c =
    c.behind_end.ensures.end ∙ ap (λ (op : Op). after_event (asks_of c.args.body.now.items) c.args.position op) (sym c.in-OnceDone.is)
