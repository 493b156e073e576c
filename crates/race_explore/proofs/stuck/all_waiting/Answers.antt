use Rattle.std.{proofs.Common.{◌∙◌, ◌++◌, sym, append-nil}, specs.Prelude.option_to_list}
use Rattle.race_explore.specs.Standing.{waits_at}
use Rattle.race_explore.proofs.StandingLemmas.{kept_on}
use Rattle.race_explore.proofs.stuck.all_waiting.Goals.{in-Some+in_ok-push, in_default}
use Rattle.race_explore.proofs.stuck.all_waiting.Goals as goal

pub loop-who-preserved : goal.loop-who-preserved
loop-who-preserved g c =
    let l = c.loop-who in
    kept_on (waits_at c.args.recording.now) l.who c.waiting.result l.list.items c.match-waiting.list.items l.invariant c.waiting.ensures
    (elim c.match-waiting.branch [
      | in-Some+in_ok-push w ↦ (λ i. (w.list-is i).items) ∙ w.in_ok-push.ensures.items ∙ sym (λ i. l.list.items ++ option_to_list (w.in-Some.is i))
      | in_default w ↦ (λ i. (w.list-is i).items) ∙ sym (append-nil l.list.items) ∙ sym (λ i. l.list.items ++ option_to_list (w.in_default.is i))
    ])
