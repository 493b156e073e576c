use Rattle.race_explain.{specs.Shown.event_shown, proofs.ExplainedLemmas.words_put}
use Rattle.race_explain.proofs.explain.put_illegal.Goals as goal

pub returns : goal.returns
returns g c =
    words_put c.args.out.now.items (event_shown c.args.trace.now c.args.illegal.now.at) _ c.put_event_line.new.out.items c.extend_from_slice.new.self.items
    c.in_ok-put_event_line.ensures c.in_ok-extend_from_slice.ensures.items
