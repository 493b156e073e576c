use Rattle.std.proofs.Common.{◌==◌, ◌||◌, not, is_some, sym, ap, ◌∙◌}
use Rattle.race_model.specs.Events.{gives}
use Rattle.race_requests.specs.Sound as spec
use Rattle.race_requests.proofs.sound.is_out_of_turn.Goals as goal

pub returns-in-Go : goal.returns-in-Go
returns-in-Go g c D past S =
    c.any_of.ensures
    ∙ (λ i. (c.in-Go.goroutine == 0) || (c.started.ensures D past S i || c.is_asked_for.ensures i))
    ∙ ap (spec.is_out_of_turn past c.args.waiting.now c.args.waiter.now.who) (sym c.in-Go.is)

pub returns-in-Exit : goal.returns-in-Exit
returns-in-Exit g c D past S =
    c.is_present.ensures
    ∙ (λ i. is_some (c.innermost.ensures D past S i))
    ∙ ap (spec.is_out_of_turn past c.args.waiting.now c.args.waiter.now.who) (sym c.in-Exit.is)

pub returns-in-EndDo : goal.returns-in-EndDo
returns-in-EndDo g c D past S =
    c.is_other.ensures
    ∙ (λ i. not (gives (c.innermost-in-EndDo.ensures D past S i) c.in-EndDo.once))
    ∙ ap (spec.is_out_of_turn past c.args.waiting.now c.args.waiter.now.who) (sym c.in-EndDo.is)
